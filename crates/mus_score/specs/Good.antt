-- Good music.
use Rattle.mus_score.specs.Limits.{head_limit}
use Rattle.std.specs.Prelude.{◌≡◌, ℕ, zero, suc, ◌+◌, ◌*◌, ◌≤◌, List, [], ◌∷◌, length, map, sum, Bool, true, false}
use Rattle.std.specs.Prelude.{◌&&◌, ◌||◌, ◌==◌, nat_le, if◌then◌else◌, max, sum_by}
use Rattle.mus_units.specs.Value.{value_length, whole_note}
use Rattle.mus_score.specs.declared.good.NodeVerdict.{NodeVerdict}
use Rattle.mus_score.specs.declared.good.NodeContext.{NodeContext}
use Rattle.mus_score.specs.declared.score.Event.{Event}
use Rattle.mus_score.specs.declared.score.Flat.{Flat}
use Rattle.mus_score.specs.declared.score.Music.{Music}
use Rattle.mus_score.specs.declared.score.Music.TheOpen.{Music-F}
use Rattle.mus_score.specs.declared.score.Music.TheFolds.{fold-Music}

abbrev pub has_value_ticks : Event → Bool
has_value_ticks e = nat_le e.value.dots 3 && e.ticks == value_length e.value

abbrev pub is_good_note : Event → Bool
is_good_note e = nat_le 1 (length e.heads) && has_value_ticks e

-- a rest outside tuplets may last a measure
abbrev pub is_rest : Bool → Event → Bool
is_rest inner e =
    length e.heads == 0
    && nat_le e.value.dots 3
    && (if inner then e.ticks == value_length e.value else nat_le 1 e.ticks && nat_le e.ticks (99 * whole_note))

-- the heads and rests of a node, including grace heads
abbrev pub weight_step : Music-F ℕ → ℕ
weight_step (Music-F.Note e) = length e.heads
weight_step (Music-F.Rest e) = 1
weight_step (Music-F.Grace body slash) = sum body
weight_step (Music-F.Tuplet p q body) = sum body

abbrev pub weight : Music → ℕ
weight = fold-Music ℕ weight_step

abbrev pub node_verdict : Bool → Bool → NodeVerdict
node_verdict good some = record { good = good; some = some }

abbrev pub all_judged : List (NodeContext → NodeVerdict) → NodeContext → NodeVerdict
all_judged [] at = node_verdict true false
all_judged (m ∷ ms) at = node_verdict ((m at).good && (all_judged ms at).good) ((m at).some || (all_judged ms at).some)

abbrev pub tuplet_judged : ℕ → ℕ → List (NodeContext → NodeVerdict) → ℕ → NodeVerdict
tuplet_judged p q body zero = node_verdict false false
tuplet_judged p q body (suc deeper) =
    let inside = all_judged body (record { deeper = deeper; inner = true; grace = false }) in
    node_verdict (nat_le 2 p && nat_le p 9 && nat_le 1 q && nat_le q 9 && inside.some && inside.good) inside.some

abbrev pub good_step : Music-F (NodeContext → NodeVerdict) → NodeContext → NodeVerdict
good_step (Music-F.Note e) at = node_verdict (is_good_note e) true
good_step (Music-F.Rest e) at = node_verdict (if at.grace then false else is_rest at.inner e) true
good_step (Music-F.Grace body slash) at =
    node_verdict (if at.grace then false else (all_judged body (record at { grace = true })).good) false
good_step (Music-F.Tuplet p q body) at = if at.grace then node_verdict false false else tuplet_judged p q body at.deeper

abbrev pub judged_within : Music → NodeContext → NodeVerdict
judged_within = fold-Music (NodeContext → NodeVerdict) good_step

abbrev pub outside : NodeContext
outside = record { deeper = 2; inner = false; grace = false }

pub record IsGoodBody (body : List Music) : Type 0 where
  pub good : (all_judged (map judged_within body) outside).good ≡ true
  pub few : sum (map weight body) ≤ head_limit

-- a node by itself
abbrev pub IsGoodNode : Music → Type 0
IsGoodNode m = IsGoodBody (m ∷ [])

-- the longest duration of an event of a good body, in ticks: 99 whole notes, times nine in each of two tuplets
abbrev pub longest_ticks : ℕ
longest_ticks = 99 * whole_note * 81

pub record IsGoodFlat (f : Flat) : Type 0 where
  pub some : 1 ≤ f.duration
  pub short : f.duration ≤ longest_ticks
  pub dots : f.event.value.dots ≤ 3

-- the total duration of the events of a body
abbrev pub total_ticks : List Flat → ℕ
total_ticks = sum_by (λ f. f.duration)

abbrev pub head_count : List Event → ℕ
head_count = sum_by (λ e. length e.heads)

-- the heads and rests of an event and of the graces before it: a rest has no heads and counts as one
abbrev pub flat_weight : Flat → ℕ
flat_weight f = max 1 (length f.event.heads) + head_count f.graces

-- an event and the graces before it
abbrev pub flat_count : Flat → ℕ
flat_count f = 1 + length f.graces
