-- The nodes of a written event: its parts, the first with its graces, and their weight.
use Rattle.std.proofs.Common.{◌≡◌, ◌∙◌, refl, sym, ap, subst, ℕ, suc, ◌+◌, ◌*◌, ◌≤◌, max, List, [], ◌∷◌, ◌++◌, map}
use Rattle.std.proofs.Common.{sum_by, length, Bool, arith}
use Rattle.std.proofs.lemmas.List.{length-map, Sums.sum_by-cons}
use Rattle.mus_units.specs.declared.note.Head.{Head}
use Rattle.mus_units.specs.declared.value.Value.{Value}
use Rattle.abc_notes.specs.declared.part.GraceChord.{GraceChord}
use Rattle.mus_score.specs.Times.{Leafing, in_row, leaf, leaves_step, leaves_within, no_pending_leaf}
use Rattle.mus_score.specs.declared.score.Event.{Event}
use Rattle.mus_score.specs.declared.score.Music.TheOpen.{Music-F}
use Rattle.mus_score.specs.Good.{weight, weight_step}
use Rattle.abc_signs.specs.declared.written.WrittenEvent.{WrittenEvent}
use Rattle.abc_signs.specs.declared.written.Pending.{Pending}
use Rattle.abc_events.specs.Leaves.{grace_event, grace_note}
use Rattle.abc_events.specs.Leaves.{grace_nodes, nodes_of, Words, first_part, later_part, later_parts, parts, some_more}
use Rattle.abc_events.specs.Leaves.{node_of, note_or_rest}
use Rattle.abc_score.proofs.Cores.{Core, core, Sings, sings_none, sings_append, sung, IsSung}
use Rattle.abc_score.proofs.Rows.{weight_of, weight_of-append, weight_of-cons, at_note, at_rest, at_grace}
use Rattle.mus_score.specs.declared.score.Music.TheVariants as music

-- ---- which events
abbrev pub plain : Event → Core
plain e = (e, [])

abbrev pub with_graces : List Event → List Event → List Core
with_graces gs [] = []
with_graces gs (p ∷ ps) = (p, gs) ∷ map plain ps

abbrev pub grace_of : GraceChord → Event
grace_of g = grace_event g.heads

-- the events of a written event
abbrev pub event_cores : WrittenEvent → Pending → Words → ℕ → List Core
event_cores w waiting words id = with_graces (map grace_of waiting.graces) (parts w waiting words id w.values)

node_leaf : (heads : List Head) (e : Event) → leaves_within (note_or_rest heads e) ≡ leaf e
node_leaf [] e = at_rest leaves_step e
node_leaf (h ∷ hs) e = at_note leaves_step e

plain_sings : (es : List Event) → Sings (map node_of es) (map plain es)
plain_sings [] = sings_none
plain_sings (e ∷ es) =
    sings_append (node_of e ∷ []) (map node_of es) (plain e ∷ []) (map plain es) one (plain_sings es) where
      one : Sings (node_of e ∷ []) (plain e ∷ [])
      one = record {
        cores = λ qs ps w none.
            ap (λ (l : Leafing). map core (in_row (l ∷ []) qs ps w).flats) (node_leaf e.heads e)
            ∙ ap (λ (gs : List Event). (e, gs) ∷ []) none;
        none = λ qs ps w none. ap (λ (l : Leafing). (in_row (l ∷ []) qs ps w).waits.graces) (node_leaf e.heads e);
      }

graces_in_row : (gs : List GraceChord)
    → map (λ f. f.event) (in_row (map leaves_within (map grace_note gs)) 1 1 no_pending_leaf).flats ≡ map grace_of gs
graces_in_row [] = refl
graces_in_row (g ∷ gs) =
    ap (λ (l : Leafing).
    map (λ f. f.event) (in_row (l ∷ map leaves_within (map grace_note gs)) 1 1 no_pending_leaf).flats)
    (at_note leaves_step (grace_of g))
    ∙ ap (λ z. grace_of g ∷ z) (graces_in_row gs)

-- graces go to the event after them
group_sings : (gs : List GraceChord) (slash : Bool) (e : Event) (es : List Event)
    → Sings (music.Grace (map grace_note gs) slash ∷ node_of e ∷ map node_of es) ((e, map grace_of gs) ∷ map plain es)
group_sings gs slash e es =
    let body = map grace_note gs in
    let more = map leaves_within (map node_of es) in
    let is_grace = at_grace leaves_step body slash in
    let grace : Leafing = leaves_step (Music-F.Grace (map leaves_within body) slash) in
    let own = node_leaf e.heads e in let following = plain_sings es in
    let found = map (λ f. f.event) (in_row (map leaves_within body) 1 1 no_pending_leaf).flats in
    record {
      cores = λ qs ps w none.
          ap (λ (l : Leafing). map core (in_row (l ∷ leaves_within (node_of e) ∷ more) qs ps w).flats) is_grace
          ∙ ap (λ (l : Leafing). map core (in_row (grace ∷ l ∷ more) qs ps w).flats) own
          ∙ ap (λ (z : List Event). (e, z ++ found) ∷ map core (in_row more qs ps no_pending_leaf).flats) none
          ∙ ap (λ (z : List Event). (e, z) ∷ map core (in_row more qs ps no_pending_leaf).flats) (graces_in_row gs)
          ∙ ap (λ (z : List Core). (e, map grace_of gs) ∷ z) (following.cores qs ps no_pending_leaf refl);
      none = λ qs ps w none.
          ap (λ (l : Leafing). (in_row (l ∷ leaves_within (node_of e) ∷ more) qs ps w).waits.graces) is_grace
          ∙ ap (λ (l : Leafing). (in_row (grace ∷ l ∷ more) qs ps w).waits.graces) own
          ∙ following.none qs ps no_pending_leaf refl;
    }

graced_sings : (gs : List GraceChord) (slash : Bool) (es : List Event) → 1 ≤ length es
    → Sings (grace_nodes gs slash ++ map node_of es) (with_graces (map grace_of gs) es)
graced_sings gs slash [] some = absurd (omega arith)
graced_sings [] slash (e ∷ es) some = plain_sings (e ∷ es)
graced_sings (g ∷ gs) slash (e ∷ es) some = group_sings (g ∷ gs) slash e es

pub parts_some : (w : WrittenEvent) (waiting : Pending) (words : Words) (id : ℕ) (vs : List Value) → 1 ≤ length vs
    → 1 ≤ length (parts w waiting words id vs)
parts_some w waiting words id [] some = some
parts_some w waiting words id (v ∷ vs) some = omega arith

nodes_sing : (w : WrittenEvent) (waiting : Pending) (words : Words) (id : ℕ) → 1 ≤ length w.values
    → Sings (nodes_of w waiting words id) (event_cores w waiting words id)
nodes_sing w waiting words id some =
    graced_sings waiting.graces waiting.slash _ (parts_some w waiting words id w.values some)

pub nodes_sung : (w : WrittenEvent) (waiting : Pending) (words : Words) (id : ℕ) → 1 ≤ length w.values
    → sung (nodes_of w waiting words id) ≡ event_cores w waiting words id
nodes_sung w waiting words id some =
    let sings = nodes_sing w waiting words id some in sings.cores 1 1 no_pending_leaf refl

pub nodes_are_sung : (w : WrittenEvent) (waiting : Pending) (words : Words) (id : ℕ)
    → 1 ≤ length w.values → IsSung (nodes_of w waiting words id)
nodes_are_sung w waiting words id some =
    subst (Sings _) (sym (nodes_sung w waiting words id some)) (nodes_sing w waiting words id some)

-- ---- their weight
heads_weight : (heads : List Head) (e : Event) → e.heads ≡ heads → weight (note_or_rest heads e) ≡ max 1 (length heads)
heads_weight [] e is = at_rest weight_step e
heads_weight (h ∷ hs) e is =
    let long : length e.heads ≡ suc (length hs) = ap length is in at_note weight_step e ∙ (long ∙ omega arith)

-- one more event, with as many heads
one_more : (n m : ℕ) (e : Event) (es : List Event) → length e.heads ≡ m → weight_of (map node_of es) ≡ n * max 1 m
    → weight_of (map node_of (e ∷ es)) ≡ suc n * max 1 m
one_more n m e es long others =
    weight_of-cons (node_of e) (map node_of es)
    ∙ ap (λ k. k + weight_of (map node_of es)) (heads_weight e.heads e refl ∙ ap (max 1) long)
    ∙ (ap (λ k. max 1 m + k) others ∙ next n (max 1 m)) where
      next : (n m : ℕ) → m + n * m ≡ suc n * m
      next n m = omega arith

later_weight : (w : WrittenEvent) (verses id : ℕ) (vs : List Value)
    → weight_of (map node_of (later_parts w verses id vs)) ≡ length vs * max 1 (length w.heads)
unfolding later_part
later_weight w verses id [] = omega arith
later_weight w verses id (v ∷ vs) =
    one_more (length vs) (length w.heads) (later_part w verses id (some_more vs) v) (later_parts w verses (id + 1) vs)
    (length-map w.heads _)
    (later_weight w verses (id + 1) vs)

parts_weight : (w : WrittenEvent) (waiting : Pending) (words : Words) (id : ℕ) (vs : List Value)
    → weight_of (map node_of (parts w waiting words id vs)) ≡ length vs * max 1 (length w.heads)
unfolding first_part
parts_weight w waiting words id [] = omega arith
parts_weight w waiting words id (v ∷ vs) =
    one_more (length vs) (length w.heads) (first_part w waiting words id (some_more vs) v)
    (later_parts w (length words) (id + 1) vs)
    (length-map w.heads _) (later_weight w (length words) (id + 1) vs)

abbrev pub heads_of_graces : List GraceChord → ℕ
heads_of_graces gs = sum_by (λ g. length g.heads) gs

chords_weight : (gs : List GraceChord) → weight_of (map grace_note gs) ≡ heads_of_graces gs
unfolding grace_event
chords_weight [] = refl
chords_weight (g ∷ gs) =
    let own : weight (grace_note g) ≡ length g.heads = at_note weight_step (grace_event g.heads) in
    let both = sum_by-cons (λ (g : GraceChord). length g.heads) g gs in
    omega (arith, weight_of-cons (grace_note g) (map grace_note gs), own, chords_weight gs, both)

group_weight : (gs : List GraceChord) (slash : Bool) → weight_of (grace_nodes gs slash) ≡ heads_of_graces gs
group_weight [] slash = refl
group_weight (g ∷ gs) slash =
    let body = map grace_note (g ∷ gs) in
    omega (arith, weight_of-cons (music.Grace body slash) [], at_grace weight_step body slash, chords_weight (g ∷ gs))

pub nodes_weight : (w : WrittenEvent) (waiting : Pending) (words : Words) (id : ℕ)
    → weight_of (nodes_of w waiting words id)
    ≡ heads_of_graces waiting.graces + length w.values * max 1 (length w.heads)
nodes_weight w waiting words id =
    let own = map node_of (parts w waiting words id w.values) in
    weight_of-append (grace_nodes waiting.graces waiting.slash) own
    ∙ ap (λ n. n + weight_of own) (group_weight waiting.graces waiting.slash)
    ∙ ap (λ n. heads_of_graces waiting.graces + n) (parts_weight w waiting words id w.values)
