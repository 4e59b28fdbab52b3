-- Every listing has room in the longest: each word is as long as it is, and a number has twenty digits at most. Assumes nothing.
use mathlib.Core.Path.{◌≡◌, sym, ap, ◌∙◌}
use Prim.Native.Nat.{ℕ, ◌≤◌, ◌<◌}
use native.Mathlib.Nat.{zero-add}
use native.Mathlib.Omega.{arith}
use mathlib.Core.Bool.{Bool, true, false}
use mathlib.Core.List.{List, ◌++◌}
use lib.ListN.{length, drop, length-append}
use lib.Seq.{sets-eq, length-take-le}
use lib.Dec.{leb, le→leb, not_T, leb→le}
use lib.Ieee.{Float}
use Rattle.std.specs.Counts.{IsPrefixLen}
use Rattle.basics.specs.Choice.{pick}
use Rattle.basics.proofs.Choice.{pick_true, pick_false}
use Rattle.tree.specs.declared.Question.{Question}
use Rattle.tree.specs.declared.Leaf as leaf
use Rattle.tree.specs.declared.Side.{Side}
use Rattle.tree.specs.declared.Side.TheVariants.{Leaf, Split}
use Rattle.tree.specs.declared.Tree.{Tree}
use Rattle.tree.specs.declared.Answer.{Answer}
use Rattle.tree.specs.declared.Answer.TheVariants.{TurnedBack, Kept, Found}
use Rattle.digits.specs.Digits.{hex_of}
use Rattle.digits.specs.Put.{Put}
use Rattle.listing.specs.Words.{kept_error_word, refused_word, place_word, tried_word, leaf_label_word, error_word}
use Rattle.listing.specs.Listing.{field, spot_of, question_of, score_of, line_of, leaf_of, split_of, side_line, found_of, kept_of, refused_of, rule_lines, listing_of, most_field, spot_length, most_question, most_score, most_line, most_split, most_side, most_found, longest, written_of, out_of, ListedIn, RoomForEvery}
use Rattle.digits.proofs.Puts.{length_digits}
use Rattle.digits.proofs.Decimal.{decimal_most}

field_most : (word : List ℕ) (n : ℕ) → length (field word n) ≤ most_field word
unfolding field
field_most word n = omega (arith, length-append {A = ℕ}, decimal_most)

spot_most : (threshold : Float) → length (spot_of threshold) ≤ spot_length
unfolding spot_of hex_of
spot_most threshold = omega (arith, length-append {A = ℕ}, length_digits)

question_most : (word : List ℕ) (question : Question) → length (question_of word question) ≤ most_question word
unfolding question_of
question_most word question = omega (arith, length-append {A = ℕ}, field_most, spot_most)

score_most : (word : List ℕ) (leaf : leaf.Leaf) → length (score_of word leaf) ≤ most_score word
unfolding score_of
score_most word leaf = omega (arith, length-append {A = ℕ}, field_most)

line_most : (one two : List ℕ) (m n : ℕ) → length (line_of one m two n) ≤ most_line one two
unfolding line_of
line_most one two m n = omega (arith, length-append {A = ℕ}, field_most)

split_most : (question : Question) (left right : leaf.Leaf) → length (split_of question left right) ≤ most_split
unfolding split_of
split_most question left right = omega (arith, length-append {A = ℕ}, question_most, score_most)

side_most : (mark : ℕ) (side : Side) → length (side_line mark side) ≤ most_side
unfolding side_line leaf_of
side_most mark (Leaf leaf) = omega (arith, line_most leaf_label_word error_word leaf.label leaf.error)
side_most mark (Split question left right) = omega (arith, split_most question left right)

found_most : (tree : Tree) (tried : ℕ) → length (found_of tree tried) ≤ most_found
unfolding found_of
found_most tree tried = omega (arith, length-append {A = ℕ}, field_most, question_most)

pub room_for_every : RoomForEvery
unfolding listing_of kept_of refused_of rule_lines
room_for_every (TurnedBack number place) = omega (arith, line_most refused_word place_word number place)
room_for_every (Kept error tried) = omega (arith, line_most kept_error_word tried_word error tried)
room_for_every (Found tree tried) = omega (arith, length-append {A = ℕ}, found_most, side_most)

-- ---- the listing stored from place 0 on

pub listed : (answer : Answer) (out kept after : List ℕ) (r : ℕ) → longest ≤ length out → Put out 0 (listing_of answer) r kept → after ≡ kept
    → ListedIn answer out r after
unfolding written_of out_of
listed answer out kept after r room put e =
    let text = listing_of answer in
    let h : length text ≤ longest = room_for_every answer in
    let t = le→leb longest (length out) room in
    record {
      says = put.past ∙ zero-add (length text) ∙ sym (pick_true (leb longest (length out)) (length text) 0 t);
      holds =
          e
          ∙ put.stored
          ∙ sets-eq text out 0 (omega arith)
          ∙ ap (λ (k : ℕ). text ++ drop k out) (zero-add (length text))
          ∙ sym (pick_true (leb longest (length out)) (text ++ drop (length text) out) out t);
    }

-- ---- nothing where the memory is short

pub none_written : (answer : Answer) (out : List ℕ) → length out < longest → written_of answer out ≡ 0
unfolding written_of
none_written answer out short =
    pick_false (leb longest (length out)) (length (listing_of answer)) 0
    (not_T (leb longest (length out)) (λ (u : _). omega (arith, leb→le longest (length out) u)))

pub out_kept : (answer : Answer) (out : List ℕ) → length out < longest → out_of answer out ≡ out
unfolding out_of
out_kept answer out short =
    pick_false (leb longest (length out)) (listing_of answer ++ drop (length (listing_of answer)) out) out
    (not_T (leb longest (length out)) (λ (u : _). omega (arith, leb→le longest (length out) u)))

-- ---- what is written lies within the memory

pub written_within : (answer : Answer) (out out' : List ℕ) (bytes : ℕ) → ListedIn answer out bytes out' → IsPrefixLen bytes out'
unfolding written_of out_of
written_within answer out out' bytes after =
    let most : bytes ≤ length out' = omega (arith, after.says, ap length after.holds, go (leb longest (length out))) in
    (most, sym (length-take-le bytes out' most))
  where
    text : List ℕ
    text = listing_of answer

    go : (b : Bool) → pick b (length text) 0 ≤ length (pick b (text ++ drop (length text) out) out)
    go true = unfold pick in omega (arith, length-append text (drop (length text) out))
    go false = unfold pick in omega arith
