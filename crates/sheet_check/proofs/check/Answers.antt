-- `sheet_check::check` meets its contract: each reason in its turn, and scratch cleared after the last five.
use mathlib.Core.Path.{◌≡◌, sym, ap, ◌∙◌, subst}
use Prim.Native.Nat.{ℕ, ◌+◌, ◌-◌, ◌*◌, ◌≤◌, ◌<◌}
use mathlib.Core.Bool.{Bool, true, false}
use mathlib.Core.List.{List, ◌++◌}
use native.Mathlib.Omega.{arith}
use borrow.Author.Tests.{lt-leb, le-leb}
use lib.ListN.{length, take, drop, replicate}
use lib.Seq.{length-take-le, drop-append-add, drop-drop}
use lib.Dec.{leb, le→leb}
use Rattle.basics.proofs.Choice.{pick_true}
use Rattle.std.specs.Prelude.{Err}
use Rattle.sheet.specs.declared.refusals.Reason.{Reason}
use Rattle.sheet.specs.declared.refusals.Reason.TheVariants.{SizeOutside, LengthWrong, ScratchShort, TermAbove}
use Rattle.sheet.specs.declared.refusals.Refusal.{Refusal}
use Rattle.sheet.specs.Reasons.{number_of, refused}
use Rattle.sheet.specs.Lent.{sheet_in}
use Rattle.sheet.specs.declared.Terms.{Terms}
use Rattle.sheet.specs.Limits.{words_per_row}
use Rattle.sheet.specs.Sheet.{Sheet}
use Rattle.sheet.specs.Sound.{Limited}
use Rattle.sheet.specs.Check.{size_holds, lengths_hold, scratch_holds, terms_hold, Verdict, content_of, check_of, cleared, scratch_after}
use Rattle.sheet.specs.Ready.{Shaped}
use Rattle.sheet.proofs.Search.{truth, untruth}
use Rattle.sheet.proofs.Answer.{limited, measured_lists, rest2, rest3, rest4}
use Rattle.sheet_check.proofs.Found.{whole_stop, whole_go, checked, content_clears}
use Rattle.sheet_check.proofs.check.Goals as goal

-- ---- a reason that was found is the answer, and one ruled out hands on to the next

module _ (s : Sheet) (t : Terms) (n : ℕ) {b : Bool} where
  stop1 : b ≡ size_holds s.rows s.columns s.labels → b ≡ false → Err (refused SizeOutside 0) ≡ check_of s t n
  stop1 e f =
      whole_stop SizeOutside (size_holds s.rows s.columns s.labels) (rest2 s t n) (untruth (sym e ∙ f)) ∙ sym (checked s t n)

  go1 : b ≡ size_holds s.rows s.columns s.labels → b ≡ true → {r : Verdict} → r ≡ rest2 s t n → r ≡ check_of s t n
  go1 e f g =
      whole_go SizeOutside (size_holds s.rows s.columns s.labels) (rest2 s t n) (truth (sym e ∙ f)) g ∙ sym (checked s t n)

  stop2 : b ≡ lengths_hold s → b ≡ false → Err (refused LengthWrong 0) ≡ rest2 s t n
  stop2 e f = whole_stop LengthWrong (lengths_hold s) (rest3 s t n) (untruth (sym e ∙ f))

  go2 : b ≡ lengths_hold s → b ≡ true → {r : Verdict} → r ≡ rest3 s t n → r ≡ rest2 s t n
  go2 e f = whole_go LengthWrong (lengths_hold s) (rest3 s t n) (truth (sym e ∙ f))

  stop4 : b ≡ terms_hold t → b ≡ false → Err (refused TermAbove 0) ≡ rest4 s t n
  stop4 e f = whole_stop TermAbove (terms_hold t) (content_of s) (untruth (sym e ∙ f))

  go4 : b ≡ terms_hold t → b ≡ true → {r : Verdict} → r ≡ content_of s → r ≡ rest4 s t n
  go4 e f = whole_go TermAbove (terms_hold t) (content_of s) (truth (sym e ∙ f))

module _ (s : Sheet) (t : Terms) (n : ℕ) where
  stop3 : n < words_per_row * s.rows → Err (refused ScratchShort 0) ≡ rest3 s t n
  unfolding scratch_holds
  stop3 h = whole_stop ScratchShort (scratch_holds s n) (rest4 s t n) (untruth (lt-leb (words_per_row * s.rows) n h))

  go3 : words_per_row * s.rows ≤ n → {r : Verdict} → r ≡ rest4 s t n → r ≡ rest3 s t n
  unfolding scratch_holds
  go3 h = whole_go ScratchShort (scratch_holds s n) (rest4 s t n) (truth (le-leb (words_per_row * s.rows) n h))

in_shape : (s : Sheet) {a b : Bool} → a ≡ size_holds s.rows s.columns s.labels → a ≡ true → b ≡ lengths_hold s → b ≡ true → Shaped s
in_shape s e f g h = record { limited = limited s (truth (sym e ∙ f)); lengths = measured_lists s (truth (sym g ∙ h)) }

-- ---- scratch is as it came after these

untouched : (why : Reason) (rows : ℕ) (scratch : List ℕ) → number_of why ≤ 4 → (told : Refusal) → told ≡ refused why 0
    → scratch ≡ scratch_after (Err told) rows scratch
unfolding scratch_after
untouched why rows scratch h told e =
    sym
    (ap (λ (r : Refusal). scratch_after (Err r) rows scratch) e
    ∙ pick_true (leb (number_of why) 4) scratch (cleared (words_per_row * rows) scratch) (le→leb (number_of why) 4 h))

-- what was lent of it is part of what is cleared
front_cleared : (n rows : ℕ) (part scratch : List ℕ) → length part ≡ length (take rows scratch) → rows ≤ n → n ≤ length scratch
    → cleared n (part ++ drop rows scratch) ≡ cleared n scratch
front_cleared n rows part scratch e h g =
    let p : length part ≡ rows = e ∙ length-take-le rows scratch (omega arith) in
    let m : ℕ = n - rows in
    let q : length part + m ≡ n = omega arith in
    let r : rows + m ≡ n = omega arith in
    ap (λ l. replicate n 0 ++ l)
    (subst (λ k. drop k (part ++ drop rows scratch) ≡ drop n scratch) q
    (drop-append-add part (drop rows scratch) m ∙ drop-drop m rows scratch ∙ ap (λ k. drop k scratch) r))

-- ---- the goals

pub returns-then-not-size_holds : goal.returns-then-not-size_holds
returns-then-not-size_holds c =
    let s : Sheet = sheet_in c.args.sheet.now in
    let t : Terms = c.args.terms in
    let n : ℕ = length c.args.scratch.now in
    let told = c.whole.ensures in
    record {
      answers = ap (λ (r : Refusal). Err r) told ∙ stop1 s t n c.size_holds.ensures c.if-not-size_holds.true;
      words = untouched SizeOutside s.rows c.args.scratch.now (omega arith) _ told;
    }

pub lengths_hold-requires : goal.lengths_hold-requires
lengths_hold-requires c =
    limited (sheet_in c.args.sheet.now) (truth (sym c.size_holds.ensures ∙ c.if-not-size_holds.false))

pub returns-then-not-lengths_hold : goal.returns-then-not-lengths_hold
returns-then-not-lengths_hold c =
    let s : Sheet = sheet_in c.args.sheet.now in
    let t : Terms = c.args.terms in
    let n : ℕ = length c.args.scratch.now in
    let told = c.whole-then-not-lengths_hold.ensures in
    record {
      answers = ap (λ (r : Refusal). Err r) told ∙ go1 s t n c.size_holds.ensures c.if-not-size_holds.false (stop2 s t n c.lengths_hold.ensures c.if-not-lengths_hold.true);
      words = untouched LengthWrong s.rows c.args.scratch.now (omega arith) _ told;
    }

pub overflow_mul-words : goal.overflow_mul-words
overflow_mul-words c =
    let h : Limited (sheet_in c.args.sheet.now) = limited (sheet_in c.args.sheet.now) (truth (sym c.size_holds.ensures ∙ c.if-not-size_holds.false)) in
    omega (arith, h.rows_most)

pub returns-then-scratch-words : goal.returns-then-scratch-words
returns-then-scratch-words c =
    let s : Sheet = sheet_in c.args.sheet.now in
    let t : Terms = c.args.terms in
    let n : ℕ = length c.args.scratch.now in
    let told = c.whole-then-scratch-words.ensures in
    record {
      answers = ap (λ (r : Refusal). Err r) told ∙ go1 s t n c.size_holds.ensures c.if-not-size_holds.false
          (go2 s t n c.lengths_hold.ensures c.if-not-lengths_hold.false (stop3 s t n c.if-scratch-words.true));
      words = untouched ScratchShort s.rows c.args.scratch.now (omega arith) _ told;
    }

pub returns-then-not-terms_hold : goal.returns-then-not-terms_hold
returns-then-not-terms_hold c =
    let s : Sheet = sheet_in c.args.sheet.now in
    let t : Terms = c.args.terms in
    let n : ℕ = length c.args.scratch.now in
    let told = c.whole-then-not-terms_hold.ensures in
    record {
      answers = ap (λ (r : Refusal). Err r) told ∙ go1 s t n c.size_holds.ensures c.if-not-size_holds.false
          (go2 s t n c.lengths_hold.ensures c.if-not-lengths_hold.false
          (go3 s t n c.if-scratch-words.false (stop4 s t n c.terms_hold.ensures c.if-not-terms_hold.true)));
      words = untouched TermAbove s.rows c.args.scratch.now (omega arith) _ told;
    }

pub check_lists-answer-requires : goal.check_lists-answer-requires
check_lists-answer-requires c =
    let s : Sheet = sheet_in c.args.sheet.now in (
      in_shape s c.size_holds.ensures c.if-not-size_holds.false c.lengths_hold.ensures c.if-not-lengths_hold.false,
      length-take-le s.rows c.args.scratch.now (omega (arith, c.if-scratch-words.false)),
    )

pub returns : goal.returns
returns c =
    let s : Sheet = sheet_in c.args.sheet.now in
    let t : Terms = c.args.terms in
    let n : ℕ = length c.args.scratch.now in
    let scratch = c.args.scratch.now in
    record {
      answers =
          go1 s t n c.size_holds.ensures c.if-not-size_holds.false
          (go2 s t n c.lengths_hold.ensures c.if-not-lengths_hold.false
          (go3 s t n c.if-scratch-words.false
          (go4 s t n c.terms_hold.ensures c.if-not-terms_hold.false c.check_lists-answer.ensures)));
      words =
          c.clear.ensures
          ∙ front_cleared (words_per_row * s.rows) s.rows c.check_lists-answer.new.marks scratch c.check_lists-answer.auto.marks (omega arith)
          c.if-scratch-words.false
          ∙ sym (content_clears s s.rows scratch)
          ∙ ap (λ r. scratch_after r s.rows scratch) (sym c.check_lists-answer.ensures);
    }
