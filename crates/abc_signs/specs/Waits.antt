-- What is pending for an event: changes, graces, decorations, texts and an ending, from the steps between the
-- previous event and this one.
use Prim.Native.Char.{code}
use Rattle.std.specs.Prelude.{ℕ, List, [], ◌∷◌, ◌++◌, flat_map, Bool, true, false, ◌==◌, ◌||◌, if◌then◌else◌, Option}
use Rattle.std.specs.Prelude.{Some, None}
use Rattle.std.specs.List.{list_any}
use Rattle.mus_units.specs.declared.note.Deco.{Deco}
use Rattle.mus_score.specs.declared.score.Mention.{Mention}
use Rattle.mus_score.specs.declared.score.Changes.{Changes}
use Rattle.abc_notes.specs.declared.part.GraceChord.{GraceChord}
use Rattle.abc_steps.specs.declared.step.Step.{Step}
use Rattle.abc_steps.specs.declared.force.InForce.{InForce}
use Rattle.abc_steps.specs.Looks.{Steps}
use Rattle.abc_steps.specs.Force.{changes_at}
use Rattle.abc_signs.specs.declared.written.Pending.{Pending}

unfoldable pub decos_in : Step → List Deco
decos_in (Step.Deco deco) = deco ∷ []
decos_in _ = []

-- a first character of ^ < > @ marks an annotation above, and _ one below, both without that character; any other
-- text is a chord symbol, which is above
abbrev pub is_annotation_above : ℕ → Bool
is_annotation_above c = c == code "^" || (c == code "<" || (c == code ">" || c == code "@"))

abbrev pub mention_of : List ℕ → Mention
mention_of [] = record { below = false; text = [] }
mention_of (c ∷ text) =
    if is_annotation_above c then record { below = false; text = text }
    else (if c == code "_" then record { below = true; text = text } else record { below = false; text = c ∷ text })

unfoldable pub mentions_in : Step → List Mention
mentions_in (Step.Says text) = mention_of text ∷ []
mentions_in _ = []

unfoldable pub graces_in : Step → List GraceChord
graces_in (Step.Grace slash body) = body
graces_in _ = []

unfoldable pub has_slash : Step → Bool
has_slash (Step.Grace slash body) = slash
has_slash _ = false

-- if there are several endings, the last counts
unfoldable pub ending_after : Step → Option (List ℕ) → Option (List ℕ)
ending_after (Step.Ending text) ending = Some text
ending_after _ ending = ending

abbrev pub last_ending : Option (List ℕ) → Steps → Option (List ℕ)
last_ending ending [] = ending
last_ending ending (s ∷ waits) = last_ending (ending_after s.step ending) waits

-- several groups of graces are one, with a slash if one of them has it; the decorations inside a chord come after the
-- pending ones
unfoldable pub pending_of : InForce → Steps → List Deco → Pending
pending_of now waits inside = record {
  changes = changes_at now waits;
  decos = flat_map (λ s. decos_in s.step) waits ++ inside;
  mentions = flat_map (λ s. mentions_in s.step) waits;
  ending = last_ending None waits;
  graces = flat_map (λ s. graces_in s.step) waits;
  slash = list_any (λ s. has_slash s.step) waits;
}

-- whether a step means something for the event after it
unfoldable pub tells : Step → Bool
tells (Step.Grace slash body) = true
tells (Step.Ending text) = true
tells (Step.Deco deco) = true
tells (Step.Says text) = true
tells (Step.Key text) = true
tells (Step.Meter meter) = true
tells (Step.Clef clef) = true
tells _ = false

abbrev pub no_changes : Changes
no_changes = record { clef = None; key = None; meter = None }

abbrev pub nothing_pending : Pending
nothing_pending = record { changes = no_changes; decos = []; mentions = []; ending = None; graces = []; slash = false }
