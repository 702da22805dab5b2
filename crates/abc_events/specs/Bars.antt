-- The bars of a voice, where bars at one place between two events are joined into one, and its forced bars.
use Rattle.std.specs.Prelude.{ℕ, ◌+◌, List, [], ◌∷◌, ◌++◌, map, reverse, Bool, true, false, not, ◌==◌, ◌&&◌, ◌||◌}
use Rattle.std.specs.Prelude.{if◌then◌else◌, nat_le, nat_lt, Option, Some, None}
use Rattle.std.specs.List.{list_any, range_with_len}
use Rattle.mus_units.specs.declared.note.Bar.{Bar}
use Rattle.abc_steps.specs.declared.step.Step.{Step}
use Rattle.abc_steps.specs.declared.counts.Counts.{Counts}
use Rattle.abc_steps.specs.declared.counts.Nearest.{Nearest}
use Rattle.abc_steps.specs.Looks.{Steps}
use Rattle.abc_steps.specs.Counts.{counts_of, measures_begun}

abbrev pub plain_bar : Bar
plain_bar =
    record { end = false; start = false; last = false; initial = false; double = false; dotted = false; unseen = false }

abbrev pub unseen_bar : Bar
unseen_bar =
    record { end = false; start = false; last = false; initial = false; double = false; dotted = false; unseen = true }

-- the features of both
abbrev pub union : Bar → Bar → Bar
union a b = record {
  end = a.end || b.end;
  start = a.start || b.start;
  last = a.last || b.last;
  initial = a.initial || b.initial;
  double = a.double || b.double;
  dotted = a.dotted || b.dotted;
  unseen = a.unseen || b.unseen;
}

abbrev pub union_with : Option Bar → Bar → Bar
union_with None bar = bar
union_with (Some all) bar = union all bar

-- a bar is unseen only if it has no other feature
abbrev pub is_seen : Bar → Bool
is_seen b = b.end || (b.start || (b.last || (b.initial || (b.double || b.dotted))))

abbrev pub joined_bar : Bar → Bar
joined_bar b = record b { unseen = b.unseen && not (is_seen b) }

-- the bars among some steps before which exactly `begun` measures had begun
unfoldable pub bars_after : ℕ → ℕ → Step → Option Bar → Option Bar
bars_after begun now (Step.Bar bar) all = if begun == now then Some (union_with all bar) else all
bars_after begun now _ all = all

abbrev pub bars_at : ℕ → Steps → Option Bar
bars_at begun [] = None
bars_at begun (s ∷ before) = bars_after begun (measures_begun before) s.step (bars_at begun before)

abbrev pub joined_or : Bar → Option Bar → Bar
joined_or other None = other
joined_or other (Some all) = joined_bar all

-- the bars before the first event
abbrev pub bar_before_events : Steps → Bar
bar_before_events steps = joined_or plain_bar (bars_at 0 (reverse steps))

-- A measure without a bar: the last one of the voice gets an unseen bar, any other a plain one.
abbrev pub missing_bar : ℕ → ℕ → Bar
missing_bar own measure = if measure + 1 == own then unseen_bar else plain_bar

abbrev pub bar_of : Steps → ℕ → Bar
bar_of steps measure =
    joined_or (missing_bar (measures_begun (reverse steps)) measure) (bars_at (measure + 1) (reverse steps))

-- the bars of n measures
abbrev pub bars_of : Steps → ℕ → List Bar
bars_of steps n = map (bar_of steps) (range_with_len 0 n)

-- Forced bars: the bar before a line break, if the nearest event or bar is a bar. The bar at which a voice begins and
-- the one at which it ends are not forced; each bar counts once.
abbrev pub is_near_bar : Nearest → Bool
is_near_bar Nearest.Bar = true
is_near_bar _ = false

abbrev pub forces_bar : ℕ → Counts → Bool
forces_bar n counts =
    is_near_bar counts.nearest
    && (nat_le 1 (counts.groups + counts.further) && nat_lt (counts.groups + counts.further) n)

abbrev pub with_bar : ℕ → List ℕ → List ℕ
with_bar bar forced = if list_any (λ b. b == bar) forced then forced else forced ++ bar ∷ []

unfoldable pub forced_after : ℕ → Counts → Step → List ℕ → List ℕ
forced_after n counts Step.Break forced =
    if forces_bar n counts then with_bar (counts.groups + counts.further) forced else forced
forced_after n counts _ forced = forced

abbrev pub forced_at : ℕ → Steps → List ℕ
forced_at n [] = []
forced_at n (s ∷ before) = forced_after n (counts_of before) s.step (forced_at n before)

abbrev pub forced_bars : Steps → ℕ → List ℕ
forced_bars steps n = forced_at n (reverse steps)
