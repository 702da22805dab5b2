-- The events of a body, each with the graces before it, whatever tuplets are around them.
use Rattle.std.proofs.Common.{◌≡◌, ◌∙◌, refl, sym, ap, subst, ℕ, suc, ◌*◌, List, [], ◌∷◌, ◌++◌, map, length, append-nil}
use Rattle.std.proofs.Common.{append_assoc, IfSome}
use Rattle.std.proofs.lemmas.List.{map-append, Concat.flat_map-append, Elements.{All-nil, All-cons}}
use Rattle.std.specs.{Prelude.{⊤, flat_map}, List.{All, AllByRecursion}}
use Rattle.mus_units.specs.{declared.pitch.Clef.Clef, Good.{IsGoodKey, IsGoodMeter}}
use Rattle.abc_events.specs.{Leaf.Leaf, Nesting.{Forest, none_more, one, group, nest, music_of, tree_of}}
use Rattle.abc_score.proofs.{Basics.{prefix_all, back_all}, Rows.{rows, leaf_rows, nest_rows, at_tuplet}}
use Rattle.mus_score.specs.GoodScore.{AreCounted, AreInReach, IsGoodEvent, IsInReach, clef_at}
use Rattle.mus_score.specs.Times.{Leafing, in_row, leaves_step, leaves_within, flats_of, no_pending_leaf}
use Rattle.mus_score.specs.declared.{score.{Event.Event, Flat.Flat, Music.Music}, times.PendingLeaf.PendingLeaf}
use Rattle.mus_score.specs.declared.score.Music.TheVariants as music

-- an event and the graces before it
abbrev pub Core : Type 0
Core = Event × List Event

abbrev pub core : Flat → Core
core f = (f.event, f.graces)

-- ---- what a good voice requires of events with their graces
abbrev pub Reaches : Clef → Event → Type 0
Reaches clef e = All (IsInReach clef) e.heads

abbrev pub CoresReach : Clef → List Core → Type 0
CoresReach before [] = ⊤
CoresReach before (c ∷ cs) =
    let clef = clef_at before c.0 in Reaches clef c.0 × All (Reaches clef) c.1 × CoresReach clef cs

abbrev pub CoresCount : ℕ → List Core → Type 0
CoresCount n [] = ⊤
CoresCount n (c ∷ cs) = (c.0.id ≡ n) × CoresCount (suc n) cs

pub record IsGoodCore (verses : ℕ) (c : Core) : Type 0 where
  pub words : length c.0.words ≡ verses
  pub key : IfSome c.0.changes.key IsGoodKey
  pub meter : IfSome c.0.changes.meter IsGoodMeter

pub reach_of : (before : Clef) (fs : List Flat) → CoresReach before (map core fs) → AreInReach before fs
reach_of before [] h = tt
reach_of before (f ∷ fs) h = (h.0, h.1, reach_of (clef_at before f.event) fs h.2)

pub count_of : (n : ℕ) (fs : List Flat) → CoresCount n (map core fs) → AreCounted n fs
count_of n [] h = tt
count_of n (f ∷ fs) h = (h.0, count_of (suc n) fs h.1)

pub events_of_cores : (verses : ℕ) (fs : List Flat)
    → AllByRecursion (IsGoodCore verses) (map core fs) → All (IsGoodEvent verses) fs
events_of_cores verses [] h = All-nil (IsGoodEvent verses)
events_of_cores verses (f ∷ fs) h =
    All-cons (IsGoodEvent verses) f fs (record { words = h.0.words; key = h.0.key; meter = h.0.meter })
    (events_of_cores verses fs h.1)

-- ---- lists of nodes
module _ (qs ps : ℕ) where
  flats-append : (xs ys : List Leafing) (w : PendingLeaf)
      → (in_row (xs ++ ys) qs ps w).flats
      ≡ (in_row xs qs ps w).flats ++ (in_row ys qs ps (in_row xs qs ps w).waits).flats
  flats-append [] ys w = refl
  flats-append (x ∷ xs) ys w =
      let first = x qs ps w in
      ap (λ z. first.flats ++ z) (flats-append xs ys first.waits) ∙ sym (append_assoc first.flats _ _)

  waits-append : (xs ys : List Leafing) (w : PendingLeaf)
      → (in_row (xs ++ ys) qs ps w).waits ≡ (in_row ys qs ps (in_row xs qs ps w).waits).waits
  waits-append [] ys w = refl
  waits-append (x ∷ xs) ys w = waits-append xs ys (x qs ps w).waits

-- nodes that are these events, with no grace pending after them
pub record Sings (ms : List Music) (cs : List Core) : Type 0 where
  pub cores : (qs ps : ℕ) (w : PendingLeaf)
      → w.graces ≡ [] → map core (in_row (map leaves_within ms) qs ps w).flats ≡ cs
  pub none : (qs ps : ℕ) (w : PendingLeaf) → w.graces ≡ [] → (in_row (map leaves_within ms) qs ps w).waits.graces ≡ []

pub sings_none : Sings [] []
sings_none = record { cores = λ qs ps w e. refl; none = λ qs ps w e. e }

pub sings_append : (xs ys : List Music) (cs ds : List Core) → Sings xs cs → Sings ys ds → Sings (xs ++ ys) (cs ++ ds)
sings_append xs ys cs ds a b = record {
  cores = λ qs ps w e.
      let r = in_row (map leaves_within xs) qs ps w in let s = in_row (map leaves_within ys) qs ps r.waits in
      ap (λ (z : List Leafing). map core (in_row z qs ps w).flats) (map-append leaves_within xs ys)
      ∙ ap (map core) (flats-append qs ps (map leaves_within xs) (map leaves_within ys) w)
      ∙ map-append core r.flats s.flats
      ∙ ap (λ z. z ++ map core s.flats) (a.cores qs ps w e)
      ∙ ap (λ z. cs ++ z) (b.cores qs ps r.waits (a.none qs ps w e));
  none = λ qs ps w e.
      ap (λ (z : List Leafing). (in_row z qs ps w).waits.graces) (map-append leaves_within xs ys)
      ∙ ap (λ (z : PendingLeaf). z.graces) (waits-append qs ps (map leaves_within xs) (map leaves_within ys) w)
      ∙ b.none qs ps _ (a.none qs ps w e);
}

pub sings_tuplet : (p q : ℕ) (inner : List Music) (cs : List Core)
    → Sings inner cs → Sings (music.Tuplet p q inner ∷ []) cs
sings_tuplet p q inner cs h =
    let is = at_tuplet leaves_step p q inner in
    record {
      cores =
          λ qs ps w e.
          ap (map core) (append-nil _)
          ∙ ap (λ (l : Leafing). map core (l qs ps w).flats) is
          ∙ h.cores (qs * q) (ps * p) _ e;
      none = λ qs ps w e. ap (λ (l : Leafing). (l qs ps w).waits.graces) is ∙ h.none (qs * q) (ps * p) _ e;
    }

-- ---- trees
abbrev pub sung : List Music → List Core
sung nodes = map core (flats_of nodes)

abbrev pub IsSung : List Music → Type 0
IsSung nodes = Sings nodes (sung nodes)

forest_sings : (f : Forest) → AllByRecursion IsSung (rows f) → Sings (music_of f) (flat_map sung (rows f))
forest_sings none_more h = sings_none
forest_sings (one nodes f) h = sings_append nodes (music_of f) (sung nodes) _ h.0 (forest_sings f h.1)
forest_sings (group p q takes inner f) h =
    let prefix = forest_sings inner (prefix_all IsSung (rows inner) (rows f) h) in
    let back = forest_sings f (back_all IsSung (rows inner) (rows f) h) in
    rw (flat_map-append sung (rows inner) (rows f))
    (sings_append (music.Tuplet p q _ ∷ []) (music_of f) _ _ (sings_tuplet p q _ _ prefix) back)

pub tree_sings : (ls : List Leaf)
    → AllByRecursion IsSung (leaf_rows ls) → map core (flats_of (tree_of ls)) ≡ flat_map sung (leaf_rows ls)
tree_sings ls h =
    let sings = forest_sings (nest ls) (subst (AllByRecursion IsSung) (sym (nest_rows ls)) h) in
    sings.cores 1 1 no_pending_leaf refl ∙ ap (flat_map sung) (nest_rows ls)
