-- For a signer. The words of document 01's listing, in ASCII. The code has each as a byte string, so a reader may check the string there: a
-- contract that names the list is proved only of the same bytes. Definitions only.
use Rattle.std.specs.Prelude.{ℕ, List, [], ◌∷◌}

-- `FOUND error=`
abbrev pub found_error_word : List ℕ
found_error_word = 70 ∷ 79 ∷ 85 ∷ 78 ∷ 68 ∷ 32 ∷ 101 ∷ 114 ∷ 114 ∷ 111 ∷ 114 ∷ 61 ∷ []

-- `KEPT error=`
abbrev pub kept_error_word : List ℕ
kept_error_word = 75 ∷ 69 ∷ 80 ∷ 84 ∷ 32 ∷ 101 ∷ 114 ∷ 114 ∷ 111 ∷ 114 ∷ 61 ∷ []

-- `REFUSED `
abbrev pub refused_word : List ℕ
refused_word = 82 ∷ 69 ∷ 70 ∷ 85 ∷ 83 ∷ 69 ∷ 68 ∷ 32 ∷ []

-- ` place=`
abbrev pub place_word : List ℕ
place_word = 32 ∷ 112 ∷ 108 ∷ 97 ∷ 99 ∷ 101 ∷ 61 ∷ []

-- ` column=`
abbrev pub column_word : List ℕ
column_word = 32 ∷ 99 ∷ 111 ∷ 108 ∷ 117 ∷ 109 ∷ 110 ∷ 61 ∷ []

-- ` at=`
abbrev pub spot_word : List ℕ
spot_word = 32 ∷ 97 ∷ 116 ∷ 61 ∷ []

-- ` tried=`
abbrev pub tried_word : List ℕ
tried_word = 32 ∷ 116 ∷ 114 ∷ 105 ∷ 101 ∷ 100 ∷ 61 ∷ []

-- ` LEAF label=`
abbrev pub leaf_label_word : List ℕ
leaf_label_word = 32 ∷ 76 ∷ 69 ∷ 65 ∷ 70 ∷ 32 ∷ 108 ∷ 97 ∷ 98 ∷ 101 ∷ 108 ∷ 61 ∷ []

-- ` error=`
abbrev pub error_word : List ℕ
error_word = 32 ∷ 101 ∷ 114 ∷ 114 ∷ 111 ∷ 114 ∷ 61 ∷ []

-- ` SPLIT column=`
abbrev pub split_column_word : List ℕ
split_column_word = 32 ∷ 83 ∷ 80 ∷ 76 ∷ 73 ∷ 84 ∷ 32 ∷ 99 ∷ 111 ∷ 108 ∷ 117 ∷ 109 ∷ 110 ∷ 61 ∷ []

-- ` left=`
abbrev pub left_word : List ℕ
left_word = 32 ∷ 108 ∷ 101 ∷ 102 ∷ 116 ∷ 61 ∷ []

-- ` right=`
abbrev pub right_word : List ℕ
right_word = 32 ∷ 114 ∷ 105 ∷ 103 ∷ 104 ∷ 116 ∷ 61 ∷ []

-- `/`
abbrev pub slash_word : List ℕ
slash_word = 47 ∷ []

-- `\n`
abbrev pub newline_word : List ℕ
newline_word = 10 ∷ []

-- the sides' marks, `L` and `R`
abbrev pub left_mark : ℕ
left_mark = 76

abbrev pub right_mark : ℕ
right_mark = 82
