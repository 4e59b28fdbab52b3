-- A column's cuts, one place after the other: what was found so far is what is listed so far, or the list is not that of the cuts. Assumes nothing.
use mathlib.Core.Path.{◌≡◌, sym, ap, ◌∙◌, subst}
use Prim.Native.Nat.{ℕ, ◌+◌, ◌<◌}
use native.Mathlib.Omega.{arith}
use mathlib.Core.Bool.{not, ◌&&◌}
use mathlib.Core.List.{List, [], ◌∷◌, ◌++◌}
use lib.ListN.{length, get_or, length-append}
use lib.Seq.{get_or_at}
use lib.Dec.{T, T_not, ltb, eqb, lt→ltb, eqb→eq, eqb_refl}
use Rattle.basics.specs.Lists.{those, table}
use Rattle.basics.proofs.Choice.{pick_true, pick_false, and_both, same_bool}
use Rattle.basics.proofs.Lists.{get_d_table, length_table, table_more, table_split, those_append}
use Rattle.sheet.specs.Sheet.{Sheet, is_cut, count_of, place_of, places_of}
use Rattle.sheet.specs.Check.{cuts_of, same}
use Rattle.sheet.proofs.Lists.{same_refl, same_yes, same_no}
use Rattle.sheet.proofs.Values.{cut_first}
use Rattle.sheet.proofs.CutList.{cuts_to, cuts_skip, cuts_take}

-- a cut stands in the list of all behind those before it
cut_within : (s : Sheet) (c i n : ℕ) → i < n → T (is_cut s c i) → (rest : List ℕ) × (cuts_to s c n ≡ cuts_to s c i ++ (i ∷ rest))
cut_within s c i n h t =
    let w = table_split (λ r. r) i n h in (
      those (is_cut s c) w.0,
      ap (λ l. those (is_cut s c) l) w.1
          ∙ those_append (is_cut s c) (table (λ r. r) i) (i ∷ w.0)
          ∙ ap (λ l. cuts_to s c i ++ l) (pick_true (is_cut s c i) (i ∷ those (is_cut s c) w.0) (those (is_cut s c) w.0) t),
    )

-- the first `found` listed places are the cuts before place i
pub record Matched (s : Sheet) (c found i : ℕ) : Type 0 where
  pub few : found < i
  pub alike : table (place_of s c) found ≡ cuts_to s c i

pub matched_none : (s : Sheet) (c : ℕ) → Matched s c 0 1
matched_none s c =
    record { few = omega arith; alike = sym (pick_false (is_cut s c 0) (0 ∷ []) [] (cut_first s c)) }

module _ (s : Sheet) (c found i : ℕ) (m : Matched s c found i) where
  pub matched_skip : T (not (is_cut s c i)) → Matched s c found (i + 1)
  matched_skip t = record { few = omega arith; alike = m.alike ∙ sym (cuts_skip s c i t) }

  pub matched_take : T (is_cut s c i) → place_of s c found ≡ i → Matched s c (found + 1) (i + 1)
  matched_take t e =
      record {
        few = omega arith;
        alike =
            table_more (place_of s c) found
            ∙ ap (λ l. l ++ (place_of s c found ∷ [])) m.alike
            ∙ ap (λ (p : ℕ). cuts_to s c i ++ (p ∷ [])) e
            ∙ sym (cuts_take s c i t);
      }

  count_so_far : length (cuts_to s c i) ≡ found
  count_so_far = ap length (sym m.alike) ∙ length_table (place_of s c) found

  -- were the list that of all cuts, this one would be listed
  due : i < s.rows → T (is_cut s c i) → places_of s c ≡ cuts_of s c → T (ltb found (count_of s c) && eqb (place_of s c found) i)
  unfolding places_of cuts_of
  due h t e =
      let w = cut_within s c i s.rows h t in
      let n : length (table (place_of s c) (count_of s c)) ≡ length (cuts_to s c i ++ (i ∷ w.0)) = ap length (e ∙ w.1) in
      let l : found < count_of s c =
      omega (arith, n, length_table (place_of s c) (count_of s c), length-append (cuts_to s c i) (i ∷ w.0), count_so_far) in
      let p : place_of s c found ≡ i =
      sym (get_d_table (place_of s c) (count_of s c) found 0 l)
      ∙ ap (λ (xs : List ℕ). get_or xs found 0) (e ∙ w.1)
      ∙ get_or_at (cuts_to s c i) i w.0 0 found count_so_far in
      and_both (ltb found (count_of s c)) (eqb (place_of s c found) i) (lt→ltb found (count_of s c) l)
      (subst (λ x. T (eqb (place_of s c found) x)) p (eqb_refl (place_of s c found)))

  pub mismatch : i < s.rows → T (is_cut s c i) → T (not (ltb found (count_of s c) && eqb (place_of s c found) i))
      → T (not (same (places_of s c) (cuts_of s c)))
  mismatch h t b =
      same_no (places_of s c) (cuts_of s c) (λ e. T_not (ltb found (count_of s c) && eqb (place_of s c found) i) b (due h t e))

  -- at the last place
  pub matched_end : i ≡ s.rows → eqb found (count_of s c) ≡ same (places_of s c) (cuts_of s c)
  unfolding places_of cuts_of
  matched_end e =
      same_bool (eqb found (count_of s c)) (same (places_of s c) (cuts_of s c))
      (λ t.
      let p : places_of s c ≡ cuts_of s c =
      ap (λ (n : ℕ). table (place_of s c) n) (sym (eqb→eq found (count_of s c) t)) ∙ m.alike ∙ ap (λ (n : ℕ). cuts_to s c n) e in
      subst (λ l. T (same (places_of s c) l)) p (same_refl (places_of s c)))
      (λ t.
      let n : length (table (place_of s c) (count_of s c)) ≡ length (cuts_to s c s.rows) = ap length (same_yes (places_of s c) (cuts_of s c) t) in
      let k : found ≡ count_of s c =
      sym count_so_far ∙ ap (λ (n : ℕ). length (cuts_to s c n)) e ∙ sym n ∙ length_table (place_of s c) (count_of s c) in
      subst (λ x. T (eqb found x)) k (eqb_refl found))
