-- The scan reads neither the cut lists nor a mark past the rows. Assumes nothing.
use mathlib.Core.Path.{sym, ◌∙◌}
use Rattle.leaves_score.proofs.Accepted.{same_sides}
use Rattle.leaves_score.proofs.Marks.{sides_alike}
use Rattle.side_laws.specs.Same.{with_cuts, CutsUnread, SameMarks}

-- with no cut lists both sheets are the same
pub cuts_unread : CutsUnread
cuts_unread s cuts counts support mark = sym (same_sides (with_cuts s cuts counts) mark support) ∙ same_sides s mark support

-- other marks past the rows
pub same_marks : SameMarks
same_marks s sound support mark twin same = sides_alike s mark twin (λ c h. (sound.column c h).in_rows) same support
