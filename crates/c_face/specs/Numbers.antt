-- For a signer. The numbers that a call from C hands over; one that is not there counts as 0. Definitions only.
use Rattle.std.specs.Prelude.{ℕ, List, get_or}
use Rattle.sheet.specs.declared.Size.{Size}
use Rattle.sheet.specs.declared.Terms.{Terms}

-- rows, columns, labels
abbrev pub size_in : List ℕ → Size
size_in numbers = record { rows = get_or numbers 0 0; columns = get_or numbers 1 0; labels = get_or numbers 2 0 }

-- support, gap, error, bound
abbrev pub terms_in : List ℕ → Terms
terms_in numbers = record { support = get_or numbers 3 0; gap = get_or numbers 4 0; error = get_or numbers 5 0; bound = get_or numbers 6 0 }
