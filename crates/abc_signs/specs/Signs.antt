-- The tree items of a voice: its written events and the tuplets that begin in it, in the order of the text.
use Rattle.std.specs.Prelude.{ℕ, zero, suc, ◌+◌, ◌-◌, ◌≤◌, List, [], ◌∷◌, ◌++◌, map, Bool, false, ◌||◌, if◌then◌else◌}
use Rattle.std.specs.Prelude.{nat_le, Some, None, unwrap_or, ⊤}
use Rattle.std.specs.List.{All}
use Rattle.mus_units.specs.declared.note.Head.{Head}
use Rattle.mus_units.specs.declared.value.Value.{Value}
use Rattle.mus_units.specs.Parts.{parts_list}
use Rattle.mus_units.specs.declared.value.Base.{Base}
use Rattle.mus_score.specs.declared.score.Look.{Look}
use Rattle.abc_steps.specs.declared.step.WrittenSound.{WrittenSound}
use Rattle.abc_steps.specs.declared.step.Step.{Step}
use Rattle.abc_steps.specs.declared.step.PlacedStep.{PlacedStep}
use Rattle.abc_steps.specs.declared.force.InForce.{InForce}
use Rattle.abc_steps.specs.declared.state.VoiceState.{VoiceState}
use Rattle.abc_steps.specs.Looks.{Steps, since_event, is_sound_tied, slurs_begun, slurs_ended, has_parting}
use Rattle.abc_steps.specs.Lengths.{written_length}
use Rattle.abc_steps.specs.Tuplets.{or_default, fits, usual_q}
use Rattle.abc_steps.specs.Force.{meter_ticks}
use Rattle.abc_steps.specs.Places.{state_at, measure_of}
use Rattle.abc_signs.specs.declared.written.WrittenEvent.{WrittenEvent}
use Rattle.abc_signs.specs.declared.written.TreeItem.{TreeItem}
use Rattle.abc_signs.specs.Waits.{pending_of, nothing_pending}

-- a space or the end of a line is between an event and the one before it; a voice's first event has none before it
abbrev pub parted_at : VoiceState → Steps → Bool
parted_at now waits = if nat_le 1 now.counts.begun then has_parting waits else false

-- Heads, tied or as written: a tie after a chord ties all its heads.
abbrev pub with_tie : Bool → Head → Head
with_tie tie head = record head { tied = head.tied || tie }

abbrev pub tied_heads : List Head → Steps → List Head
tied_heads [] following = []
tied_heads (h ∷ hs) following = map (with_tie (is_sound_tied following)) (h ∷ hs)

-- a rest begins and ends no slur
abbrev pub for_note : List Head → ℕ → ℕ
for_note [] n = 0
for_note (h ∷ hs) n = n

abbrev pub look_of : Bool → Look
look_of seen = if seen then Look.Seen else Look.Unseen

abbrev pub whole_look : Bool → Look
whole_look seen = if seen then Look.Whole else Look.Unseen

-- a note, a chord or a rest
unfoldable pub sound_written : VoiceState → Steps → PlacedStep → WrittenSound → Steps → WrittenEvent
sound_written now before at s following =
    let length = written_length now.force.unit s before following in
    record {
      line = at.line;
      column = at.column;
      measure = measure_of now;
      heads = tied_heads s.heads following;
      look = look_of s.seen;
      values = unwrap_or (parts_list length.num length.den) [];
      whole = None;
      parted = parted_at now (since_event before);
      begins = for_note s.heads (slurs_begun before);
      ends = for_note s.heads (slurs_ended following);
    }

-- a whole measure rest: it lasts as long as the meter, and its value is a whole without dots
abbrev pub whole_value : Value
whole_value = record { base = Base.Whole; dots = 0 }

unfoldable pub rest_written : VoiceState → PlacedStep → Bool → ℕ → Bool → WrittenEvent
rest_written now at seen measure parted = record {
  line = at.line;
  column = at.column;
  measure = measure;
  heads = [];
  look = whole_look seen;
  values = whole_value ∷ [];
  whole = Some (unwrap_or (meter_ticks now.force.meter) 0);
  parted = parted;
  begins = 0;
  ends = 0;
}

-- the further rests, one measure each, with nothing pending
abbrev pub further_rests : VoiceState → PlacedStep → Bool → ℕ → ℕ → List TreeItem
further_rests now at seen measure zero = []
further_rests now at seen measure (suc n) =
    TreeItem.Event (rest_written now at seen measure false) nothing_pending ∷ further_rests now at seen (measure + 1) n

abbrev pub rests_of : VoiceState → Steps → PlacedStep → Bool → ℕ → List TreeItem
rests_of now waits at seen count =
    TreeItem.Event (rest_written now at seen (measure_of now) (parted_at now waits)) (pending_of now.force waits [])
    ∷ further_rests now at seen (measure_of now + 1) (count - 1)

-- a tuplet that does not fit into the open ones begins nothing
abbrev pub tuplet_of : VoiceState → ℕ → ℕ → ℕ → List TreeItem
tuplet_of now p q r =
    if fits (or_default p r) now.taking
    then TreeItem.Opens (measure_of now) p (or_default (usual_q p now.force.meter) q) (or_default p r) ∷ []
    else []

unfoldable pub tree_items_of : VoiceState → Steps → PlacedStep → Steps → Step → List TreeItem
tree_items_of now before at following (Step.Sound s) =
    TreeItem.Event (sound_written now before at s following) (pending_of now.force (since_event before) s.decos) ∷ []
tree_items_of now before at following (Step.Measures seen count) = rests_of now (since_event before) at seen count
tree_items_of now before at following (Step.Tuplet p q r) = tuplet_of now p q r
tree_items_of now before at following _ = []

-- each step of a voice in turn, with the steps before it, the nearest first, and the steps after it
abbrev pub signs : InForce → Steps → Steps → List TreeItem
signs first before [] = []
signs first before (at ∷ following) =
    tree_items_of (state_at first before) before at following at.step ++ signs first (at ∷ before) following

-- Good tree items: each value has at most three dots.
abbrev pub HasDrawableValues : TreeItem → Type 0
HasDrawableValues (TreeItem.Event w waiting) = All (λ v. v.dots ≤ 3) w.values
HasDrawableValues (TreeItem.Opens measure p q r) = ⊤
