-- The first of a set of faults: by line, then by column, then by the order of faults at one place.
use Rattle.std.specs.Prelude.{◌≡◌, ℕ, Bool, false, ◌&&◌, ◌||◌, ◌==◌, nat_lt, if◌then◌else◌, List, [], ◌∷◌, Contains}
use Rattle.std.specs.Prelude.{Option, Some, None}
use Rattle.abc_lines.specs.{declared.fault.FaultKind.FaultKind, declared.fault.Fault.Fault}

-- the rank of a kind in that order
abbrev pub kind_rank : FaultKind → ℕ
kind_rank FaultKind.NoKey = 0
kind_rank FaultKind.BadMeter = 1
kind_rank FaultKind.BadUnit = 2
kind_rank FaultKind.BadKey = 3
kind_rank FaultKind.BadVoice = 4
kind_rank FaultKind.TooManyVoices = 5
kind_rank FaultKind.BadByte = 6
kind_rank FaultKind.Unclosed = 7
kind_rank FaultKind.BadLength = 8
kind_rank FaultKind.BadTuplet = 9
kind_rank FaultKind.TooDeep = 10
kind_rank FaultKind.TupletCrosses = 11
kind_rank FaultKind.TupletShort = 12
kind_rank FaultKind.BrokenAlone = 13
kind_rank FaultKind.Undrawable = 14
kind_rank FaultKind.StepRange = 15
kind_rank FaultKind.RestWithoutMeter = 16
kind_rank FaultKind.TooManyMeasures = 17
kind_rank FaultKind.TooManyEvents = 18
kind_rank FaultKind.TooManyVerses = 19
kind_rank FaultKind.BadScore = 20
kind_rank FaultKind.BadShare = 21
kind_rank FaultKind.BadMove = 22
kind_rank (FaultKind.NoWay reached) = 23
kind_rank (FaultKind.TooTall block) = 24

-- the first numbers decide, or if they are equal the others
abbrev pub is_below_or_tied : ℕ → ℕ → Bool → Bool
is_below_or_tied x y rest = nat_lt x y || ((x == y) && rest)

unfoldable pub is_before : Fault → Fault → Bool
is_before f g =
    is_below_or_tied f.line g.line (is_below_or_tied f.column g.column (nat_lt (kind_rank f.kind) (kind_rank g.kind)))

-- a fault of the set that no fault of the set comes before
pub record IsLeastFault (set : List Fault) (f : Fault) : Type 0 where
  pub held : Contains set f
  pub least : (g : Fault) → Contains set g → is_before g f ≡ false

-- None exactly when the set is empty, or else its first fault
abbrev pub IsFirstInOrder : List Fault → Option Fault → Type 0
IsFirstInOrder set None = set ≡ []
IsFirstInOrder set (Some f) = IsLeastFault set f

-- The same as functions: the earlier of two, or the former if neither comes before the other.
abbrev pub earlier : Option Fault → Option Fault → Option Fault
earlier None other = other
earlier (Some f) None = Some f
earlier (Some f) (Some g) = if is_before g f then Some g else Some f

abbrev pub first_of : List Fault → Option Fault
first_of [] = None
first_of (f ∷ fs) = earlier (Some f) (first_of fs)
