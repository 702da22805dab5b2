-- The leaves of a voice: each written event as its nodes, which are the graces before it and its parts.
use Rattle.std.specs.Prelude.{ℕ, ◌+◌, List, [], ◌∷◌, ◌++◌, map, length, replicate, slice_get, Bool, true, false}
use Rattle.std.specs.Prelude.{if◌then◌else◌, Option, None, unwrap_or}
use Rattle.mus_units.specs.declared.note.Head.{Head}
use Rattle.mus_units.specs.declared.value.Value.{Value}
use Rattle.mus_units.specs.Value.{value_length}
use Rattle.mus_units.specs.declared.value.Base.{Base}
use Rattle.mus_score.specs.declared.score.Look.{Look}
use Rattle.mus_score.specs.declared.score.Event.{Event}
use Rattle.mus_score.specs.declared.score.Music.{Music}
use Rattle.abc_notes.specs.declared.part.GraceChord.{GraceChord}
use Rattle.abc_signs.specs.declared.written.WrittenEvent.{WrittenEvent}
use Rattle.abc_signs.specs.declared.written.Pending.{Pending}
use Rattle.abc_signs.specs.declared.written.TreeItem.{TreeItem}
use Rattle.abc_signs.specs.Waits.{no_changes}
use Rattle.abc_signs.specs.Signs.{with_tie}
use Rattle.abc_events.specs.Leaf.{Leaf}
use Rattle.mus_score.specs.declared.score.Music.TheVariants as music

-- the words of an event, one entry per verse
abbrev pub Words : Type 0
Words = List (Option (List ℕ))

-- Parts. Changes, graces, decorations, texts, the ending, slurs that begin, words and accidentals belong to the first
-- part, slurs that end to the last one. Each part but the last is tied; the last is tied as written.
abbrev pub ends_at : WrittenEvent → Bool → ℕ
ends_at w more = if more then 0 else w.ends

unfoldable pub first_part : WrittenEvent → Pending → Words → ℕ → Bool → Value → Event
first_part w waiting words id more value = record {
  id = id;
  heads = map (with_tie more) w.heads;
  look = w.look;
  value = value;
  ticks = unwrap_or w.whole (value_length value);
  parted = w.parted;
  changes = waiting.changes;
  decos = waiting.decos;
  mentions = waiting.mentions;
  ending = waiting.ending;
  begins = w.begins;
  ends = ends_at w more;
  words = words;
}

abbrev pub later_head : Bool → Head → Head
later_head more head = with_tie more (record head { sign = None })

unfoldable pub later_part : WrittenEvent → ℕ → ℕ → Bool → Value → Event
later_part w verses id more value = record {
  id = id;
  heads = map (later_head more) w.heads;
  look = w.look;
  value = value;
  ticks = unwrap_or w.whole (value_length value);
  parted = false;
  changes = no_changes;
  decos = [];
  mentions = [];
  ending = None;
  begins = 0;
  ends = ends_at w more;
  words = replicate verses None;
}

abbrev pub some_more : List Value → Bool
some_more [] = false
some_more (v ∷ vs) = true

abbrev pub later_parts : WrittenEvent → ℕ → ℕ → List Value → List Event
later_parts w verses id [] = []
later_parts w verses id (v ∷ vs) = later_part w verses id (some_more vs) v ∷ later_parts w verses (id + 1) vs

abbrev pub parts : WrittenEvent → Pending → Words → ℕ → List Value → List Event
parts w waiting words id [] = []
parts w waiting words id (v ∷ vs) =
    first_part w waiting words id (some_more vs) v ∷ later_parts w (length words) (id + 1) vs

-- Nodes. An event without heads is a rest.
abbrev pub note_or_rest : List Head → Event → Music
note_or_rest [] e = music.Rest e
note_or_rest (h ∷ hs) e = music.Note e

abbrev pub node_of : Event → Music
node_of e = note_or_rest e.heads e

-- a note or a chord of a grace group has its heads and the value of an eighth
abbrev pub eighth : Value
eighth = record { base = Base.Eighth; dots = 0 }

unfoldable pub grace_event : List Head → Event
grace_event heads = record {
  id = 0;
  heads = heads;
  look = Look.Seen;
  value = eighth;
  ticks = value_length eighth;
  parted = false;
  changes = no_changes;
  decos = [];
  mentions = [];
  ending = None;
  begins = 0;
  ends = 0;
  words = [];
}

abbrev pub grace_note : GraceChord → Music
grace_note g = music.Note (grace_event g.heads)

-- an empty group of graces is not a node
abbrev pub grace_nodes : List GraceChord → Bool → List Music
grace_nodes [] slash = []
grace_nodes (g ∷ gs) slash = music.Grace (map grace_note (g ∷ gs)) slash ∷ []

abbrev pub nodes_of : WrittenEvent → Pending → Words → ℕ → List Music
nodes_of w waiting words id =
    grace_nodes waiting.graces waiting.slash ++ map node_of (parts w waiting words id w.values)

-- Ids count the parts of a voice; each of its written events has words, but none past the end of the list.
abbrev pub words_of_event : List Words → ℕ → Words
words_of_event words k = unwrap_or (slice_get words k) []

abbrev pub leaves_from : List Words → ℕ → ℕ → List TreeItem → List Leaf
leaves_from words k id [] = []
leaves_from words k id (TreeItem.Event w waiting ∷ signs) =
    Leaf.Event w.measure (nodes_of w waiting (words_of_event words k) id)
    ∷ leaves_from words (k + 1) (id + length w.values) signs
leaves_from words k id (TreeItem.Opens measure p q r ∷ signs) = Leaf.Opens measure p q r ∷ leaves_from words k id signs

abbrev pub leaves_of : List Words → List TreeItem → List Leaf
leaves_of words signs = leaves_from words 0 0 signs
