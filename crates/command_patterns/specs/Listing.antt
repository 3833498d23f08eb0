-- Document 02, ask 1: what the program reads and prints, byte by byte. Definitions only.
use Rattle.std.specs.Prelude.{eqb, leb, ℕ, ◌+◌, ◌-◌, cond, ◌&&◌, Option, None, Some, List, [], ◌∷◌, ◌++◌}
use Rattle.command_patterns.specs.Patterns.{patterns}

abbrev pub line_feed : ℕ
line_feed = 10

abbrev pub space : ℕ
space = 32

-- a code "as two hexadecimal digits", of which the first is 0 as no code is above 06, and the byte after it
unfoldable pub code_then : ℕ → ℕ → List ℕ
code_then c after = 48 ∷ (48 + c) ∷ after ∷ []

-- "a line per sequence, its codes .. with single spaces between", "followed by 00"
abbrev pub line : List ℕ → List ℕ
line [] = code_then 0 line_feed
line (c ∷ cs) = code_then c space ++ line cs

abbrev pub lines : List (List ℕ) → List ℕ
lines [] = []
lines (p ∷ ps) = line p ++ lines ps

-- "lists each sequence of one up to n commands"
unfoldable pub listing : ℕ → List ℕ
listing n = lines (patterns n)

-- "one digit from 1 to 5", as a number
abbrev pub digit_of : ℕ → Option ℕ
digit_of d = cond (leb 49 d && leb d 53) (Some (d - 48)) None

-- the n of an input, "with or without one line feed after it"
unfoldable pub number_in : List ℕ → Option ℕ
number_in [] = None
number_in (d ∷ []) = digit_of d
number_in (d ∷ e ∷ []) = cond (eqb e line_feed) (digit_of d) None
number_in (d ∷ e ∷ f ∷ rest) = None

-- "11, printed alone on a line"
abbrev pub eleven : List ℕ
eleven = 49 ∷ 49 ∷ line_feed ∷ []

abbrev pub printed_for : Option ℕ → List ℕ
printed_for None = eleven
printed_for (Some n) = listing n

-- what the program prints, of all of its standard input
unfoldable pub printed : List ℕ → List ℕ
printed input = printed_for (number_in input)
