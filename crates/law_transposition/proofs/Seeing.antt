-- What the events of a moved score see is what they saw before, moved; and if the score can be moved, all of it can.
use Rattle.std.proofs.Common.{◌≡◌, refl, sym, ◌∙◌, ap, ℕ, ◌*◌, Bool, true, List, [], ◌∷◌, ◌++◌, map, Option, Some, None}
use Rattle.std.proofs.Common.{option_map, flat_map, subst}
use Rattle.std.proofs.lemmas.Bool.{and_parts}
use Rattle.std.proofs.lemmas.List.{map-append}
use Rattle.std.proofs.lemmas.List.Elements.{recursion_from_All}
use Rattle.std.proofs.lemmas.List.Sums.{AllPass-from_list_all}
use Rattle.std.specs.Prelude.{unwrap_or}
use Rattle.std.specs.List.{AllByRecursion, AllZip, list_all}
use Rattle.mus_units.specs.declared.{key.Key.Key, note.Head.Head}
use Rattle.mus_score.specs.declared.score.Event.{Event}
use Rattle.mus_score.specs.declared.score.Flat.{Flat}
use Rattle.mus_score.specs.declared.score.Measure.{Measure}
use Rattle.mus_score.specs.declared.score.Music.{Music}
use Rattle.mus_score.specs.declared.times.PendingLeaf.{PendingLeaf}
use Rattle.mus_score.specs.Times.{Leafing, flats_of, in_row, leaf, leaves_step, leaves_within, no_pending_leaf}
use Rattle.mus_transpose.specs.declared.moves.Move.{Move}
use Rattle.mus_transpose.specs.Moved.{all_pass, all_true, body_may, changed_flat, event_by, event_may, head_moves}
use Rattle.mus_transpose.specs.Moved.{moved_key, key_may, measure_by, moved_head, passing_step}
use Rattle.mus_transpose.proofs.Changed.{Keeps, all_keep, bodies_unchanged, flats_changed}
use Rattle.mus_drawn.specs.declared.standing.StaffState.{StaffState}
use Rattle.mus_drawn.specs.Drawn.{standing_after, staff_state_after}
use Rattle.mus_drawn.specs.Sounds.{Seen, all_heads, grace_heads, seen, seen_from, seen_in}
use Rattle.law_transposition.proofs.Reaching.{Holds, Passed}

-- ---- what is seen is moved
abbrev flat_by : Move → Flat → Flat
flat_by m = changed_flat (event_by m)

abbrev pub moved_standing : Move → StaffState → StaffState
moved_standing m now = record { clef = now.clef; key = moved_key m now.key; meter = now.meter }

abbrev pub moved_seen : Move → Seen → Seen
moved_seen m e = record {
  id = e.id;
  heads = map (moved_head m) e.heads;
  said = map (moved_head m) e.said;
  signs = (moved_key m (record { signs = e.signs })).signs;
}

key_after : (m : Move) (new : Option Key) (key : Key)
    → unwrap_or (option_map (moved_key m) new) (moved_key m key) ≡ moved_key m (unwrap_or new key)
key_after m None key = refl
key_after m (Some new) key = refl

after_moved : (m : Move) (now : StaffState) (fs : List Flat)
    → staff_state_after (moved_standing m now) (map (flat_by m) fs) ≡ moved_standing m (staff_state_after now fs)
after_moved m now [] = refl
after_moved m now (f ∷ fs) =
    let changes = f.event.changes in
    ap (λ (k : Key).
    staff_state_after
    (record { clef = unwrap_or changes.clef now.clef; key = k; meter = unwrap_or changes.meter now.meter })
    (map (flat_by m) fs))
    (key_after m changes.key now.key)
    ∙ after_moved m (standing_after now changes) fs

flat_moved : {A : Type 0} (m : Move) (f : A → List Head) (g : A → A)
    → ((x : A) → f (g x) ≡ map (moved_head m) (f x)) → (xs : List A)
    → flat_map f (map g xs) ≡ map (moved_head m) (flat_map f xs)
flat_moved m f g moved [] = refl
flat_moved m f g moved (x ∷ xs) =
    rw (moved x, flat_moved m f g moved xs) (sym (map-append (moved_head m) (f x) (flat_map f xs)))

graces_moved : (m : Move) (f : Flat) → grace_heads (flat_by m f) ≡ map (moved_head m) (grace_heads f)
graces_moved m f = flat_moved m (λ (g : Event). g.heads) (event_by m) (λ g. refl) f.graces

heads_moved : (m : Move) (f : Flat) → all_heads (flat_by m f) ≡ map (moved_head m) (all_heads f)
heads_moved m f =
    ap (λ hs. hs ++ map (moved_head m) f.event.heads) (graces_moved m f)
    ∙ sym (map-append (moved_head m) (grace_heads f) f.event.heads)

seen_moved : (m : Move) (now : StaffState) (prefix : List Flat) (f : Flat)
    → seen (moved_standing m now) (map (flat_by m) prefix) (flat_by m f) ≡ moved_seen m (seen now prefix f)
seen_moved m now prefix f =
    let said : flat_map all_heads (map (flat_by m) prefix) ++ grace_heads (flat_by m f)
    ≡ map (moved_head m) (flat_map all_heads prefix ++ grace_heads f) =
    (λ i. flat_moved m all_heads (flat_by m) (heads_moved m) prefix i ++ graces_moved m f i)
    ∙ sym (map-append (moved_head m) (flat_map all_heads prefix) (grace_heads f)) in
    let here : staff_state_after (moved_standing m now) (map (flat_by m) prefix ++ flat_by m f ∷ [])
    ≡ moved_standing m (staff_state_after now (prefix ++ f ∷ [])) =
    ap (λ fs. staff_state_after (moved_standing m now) fs) (sym (map-append (flat_by m) prefix (f ∷ [])))
    ∙ after_moved m now (prefix ++ f ∷ []) in
    λ i. record { id = f.event.id; heads = map (moved_head m) f.event.heads; said = said i; signs = (here i).key.signs }

seen_from_moved : (m : Move) (now : StaffState) (prefix fs : List Flat)
    → seen_from (moved_standing m now) (map (flat_by m) prefix) (map (flat_by m) fs)
    ≡ map (moved_seen m) (seen_from now prefix fs)
seen_from_moved m now prefix [] = refl
seen_from_moved m now prefix (f ∷ fs) =
    (λ i.
    seen_moved m now prefix f i
    ∷ seen_from (moved_standing m now) (sym (map-append (flat_by m) prefix (f ∷ [])) i) (map (flat_by m) fs))
    ∙ ap (λ es. moved_seen m (seen now prefix f) ∷ es) (seen_from_moved m now (prefix ++ f ∷ []) fs)

pub seen_in_moved : (m : Move) (now : StaffState) (ms : List Measure)
    → seen_in (moved_standing m now) (map (measure_by m) ms) ≡ map (moved_seen m) (seen_in now ms)
seen_in_moved m now [] = refl
seen_in_moved m now (x ∷ ms) =
    let fs = flats_of x.body in let others = map (measure_by m) ms in
    (λ i.
    let gs = flats_changed (event_by m) (λ e. refl) x.body i in
    seen_from (moved_standing m now) [] gs ++ seen_in (staff_state_after (moved_standing m now) gs) others)
    ∙ (λ i. seen_from_moved m now [] fs i ++ seen_in (after_moved m now fs i) others)
    ∙ ap (λ es. map (moved_seen m) (seen_from now [] fs) ++ es) (seen_in_moved m (staff_state_after now fs) ms)
    ∙ sym (map-append (moved_seen m) (seen_from now [] fs) (seen_in (staff_state_after now fs) ms))

-- ---- if each event of a tree passes a test, so do the events in a row, and the graces before them
pub joined : {A : Type 0} (P : A → Type 0) (xs ys : List A)
    → AllByRecursion P xs → AllByRecursion P ys → AllByRecursion P (xs ++ ys)
joined P [] ys a b = b
joined P (x ∷ xs) ys a b = (a.0, joined P xs ys a.1 b)

record Passes (test : Event → Bool) (f : Flat) : Type 0 where
  event : test f.event ≡ true
  graces : Holds test f.graces

abbrev LeafingPasses : (Event → Bool) → Leafing → Bool → Type 0
LeafingPasses test l b =
    (qs ps : ℕ) (w : PendingLeaf)
    → b ≡ true → Holds test w.graces
    → AllByRecursion (Passes test) (l qs ps w).flats × Holds test (l qs ps w).waits.graces

leaf_passes : (test : Event → Bool) (e : Event) → LeafingPasses test (leaf e) (test e)
leaf_passes test e qs ps w b g = ((record { event = b; graces = g }, tt {0}), tt {0})

row_passes : (test : Event → Bool) (ls : List Leafing) (bs : List Bool)
    → AllZip (LeafingPasses test) ls bs → LeafingPasses test (in_row ls) (all_true bs)
row_passes test [] [] z qs ps w e g = (tt {0}, g)
row_passes test [] (b ∷ bs) z qs ps w e g = absurd z
row_passes test (l ∷ ls) [] z qs ps w e g = absurd z
row_passes test (l ∷ ls) (b ∷ bs) z qs ps w e g =
    let parts = and_parts b (all_true bs) e in
    let first = z.0 qs ps w parts.0 g in
    let others = row_passes test ls bs z.1 qs ps (l qs ps w).waits parts.1 first.1 in
    (joined (Passes test) (l qs ps w).flats (in_row ls qs ps (l qs ps w).waits).flats first.0 others.0, others.1)

events_pass : (test : Event → Bool) (fs : List Flat)
    → AllByRecursion (Passes test) fs → Holds test (map (λ f. f.event) fs)
events_pass test [] all = tt {0}
events_pass test (f ∷ fs) all = (all.0.event, events_pass test fs all.1)

passes : (test : Event → Bool) → Keeps (λ e. e) (LeafingPasses test) leaves_step (passing_step test)
passes test = record {
  note = leaf_passes test;
  rest = leaf_passes test;
  grace = λ xs ys slash z qs ps w e g.
      let inside = (in_row xs 1 1 no_pending_leaf).flats in (
        tt {0},
        joined (Passed test) w.graces (map (λ f. f.event) inside) g
            (events_pass test inside (row_passes test xs ys z 1 1 no_pending_leaf e (tt {0})).0),
      );
  tuplet =
      λ xs ys p q z qs ps w e g.
      row_passes test xs ys z (qs * q) (ps * p) (record w { tuplets = w.tuplets ++ p ∷ [] }) e g;
}

-- ---- what is seen can be moved
abbrev FlatMay : Move → Flat → Type 0
FlatMay m = Passes (event_may m)

pub record SeenMay (m : Move) (e : Seen) : Type 0 where
  pub heads : Holds (head_moves m) e.heads
  pub said : Holds (head_moves m) e.said
  pub key : key_may m (record { signs = e.signs }) ≡ true

flats_may : (m : Move) (body : List Music) → body_may m body ≡ true → AllByRecursion (FlatMay m) (flats_of body)
flats_may m body e =
    let test = event_may m in
    let each : AllZip (LeafingPasses test) (map leaves_within body) (map (all_pass test) body) =
    subst (λ ms. AllZip (LeafingPasses test) (map leaves_within ms) (map (all_pass test) body)) (bodies_unchanged body)
    (all_keep (λ e. e) (LeafingPasses test) leaves_step (passing_step test) (passes test) body) in
    (row_passes test (map leaves_within body) (map (all_pass test) body) each 1 1 no_pending_leaf e (tt {0})).0

event_parts : (m : Move) (e : Event)
    → event_may m e ≡ true
    → Holds (head_moves m) e.heads × (unwrap_or (option_map (key_may m) e.changes.key) true ≡ true)
event_parts m e may =
    let parts =
    and_parts (list_all (head_moves m) e.heads) (unwrap_or (option_map (key_may m) e.changes.key) true) may in
    (recursion_from_All (Passed (head_moves m)) e.heads (AllPass-from_list_all (head_moves m) e.heads parts.0), parts.1)

all_flat : {A : Type 0} (m : Move) (f : A → List Head) (P : A → Type 0)
    → ((x : A) → P x → Holds (head_moves m) (f x)) → (xs : List A) → AllByRecursion P xs
    → Holds (head_moves m) (flat_map f xs)
all_flat m f P each [] all = tt {0}
all_flat m f P each (x ∷ xs) all =
    joined (Passed (head_moves m)) (f x) (flat_map f xs) (each x all.0) (all_flat m f P each xs all.1)

graces_may : (m : Move) (f : Flat) → FlatMay m f → Holds (head_moves m) (grace_heads f)
graces_may m f may =
    all_flat m (λ (g : Event). g.heads) (Passed (event_may m)) (λ g e. (event_parts m g e).0) f.graces may.graces

heads_may : (m : Move) (f : Flat) → FlatMay m f → Holds (head_moves m) (all_heads f)
heads_may m f may =
    joined (Passed (head_moves m)) (grace_heads f) f.event.heads (graces_may m f may)
    (event_parts m f.event may.event).0

key_change : (m : Move) (new : Option Key) (key : Key)
    → unwrap_or (option_map (key_may m) new) true ≡ true → key_may m key ≡ true → key_may m (unwrap_or new key) ≡ true
key_change m None key e h = h
key_change m (Some new) key e h = e

key_left_after : (m : Move) (now : StaffState) (fs : List Flat)
    → key_may m now.key ≡ true → AllByRecursion (FlatMay m) fs → key_may m (staff_state_after now fs).key ≡ true
key_left_after m now [] key all = key
key_left_after m now (f ∷ fs) key all =
    key_left_after m (standing_after now f.event.changes) fs
    (key_change m f.event.changes.key now.key (event_parts m f.event all.0.event).1 key) all.1

seen_from_may : (m : Move) (now : StaffState) (prefix fs : List Flat)
    → key_may m now.key ≡ true → AllByRecursion (FlatMay m) prefix → AllByRecursion (FlatMay m) fs
    → AllByRecursion (SeenMay m) (seen_from now prefix fs)
seen_from_may m now prefix [] key before all = tt {0}
seen_from_may m now prefix (f ∷ fs) key before all =
    let following : AllByRecursion (FlatMay m) (prefix ++ f ∷ []) =
    joined (FlatMay m) prefix (f ∷ []) before (all.0, tt {0}) in
    let here : SeenMay m (seen now prefix f) = record {
      heads = (event_parts m f.event all.0.event).0;
      said =
          joined (Passed (head_moves m)) (flat_map all_heads prefix) (grace_heads f)
          (all_flat m all_heads (FlatMay m) (heads_may m) prefix before) (graces_may m f all.0);
      key = key_left_after m now (prefix ++ f ∷ []) key following;
    } in
    (here, seen_from_may m now (prefix ++ f ∷ []) fs key following all.1)

pub seen_in_may : (m : Move) (now : StaffState) (ms : List Measure)
    → key_may m now.key ≡ true → list_all (λ x. body_may m x.body) ms ≡ true
    → AllByRecursion (SeenMay m) (seen_in now ms)
seen_in_may m now [] key may = tt {0}
seen_in_may m now (x ∷ ms) key may =
    let fs = flats_of x.body in
    let parts = and_parts (body_may m x.body) (list_all (λ y. body_may m y.body) ms) may in
    let all = flats_may m x.body parts.0 in
    joined (SeenMay m) (seen_from now [] fs) (seen_in (staff_state_after now fs) ms)
    (seen_from_may m now [] fs key (tt {0}) all)
    (seen_in_may m (staff_state_after now fs) ms (key_left_after m now fs key all) parts.1)
