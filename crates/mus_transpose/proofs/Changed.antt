-- Folds over a tree with each event changed.
use Rattle.std.proofs.Common.{◌≡◌, ℕ, Bool, List, [], ◌∷◌, ◌++◌, ◌*◌, map, refl, sym, ◌∙◌, ap, subst}
use Rattle.std.proofs.Math.Path.{fun_ext}
use Rattle.std.proofs.lemmas.List.{map-append, map-id}
use Rattle.std.proofs.lemmas.List.Elements.{same_from_all_zip}
use Rattle.std.specs.List.{AllZip}
use Rattle.mus_score.specs.declared.score.Event.{Event}
use Rattle.mus_score.specs.declared.score.Flat.{Flat}
use Rattle.mus_score.specs.declared.score.Music.{Music, map-Music}
use Rattle.mus_score.specs.declared.score.Music.TheOpen.{Music-F}
use Rattle.mus_score.specs.declared.score.Music.TheViews.{roll-Music}
use Rattle.mus_score.specs.declared.score.Music.TheFolds.{fold-Music, fold-roll-Music, ind-Music}
use Rattle.mus_score.specs.declared.times.PendingLeaf.{PendingLeaf}
use Rattle.mus_score.specs.Times.{Leafing, Leaves, flats_of, in_row, leaf, leaves_step, leaves_within, no_pending_leaf}
use Rattle.mus_transpose.specs.Moved.{changed, changed_flat, changed_layer, changed_step}

-- what two folds must preserve, one of them over the changed tree
pub record Keeps {A B : Type 0} (g : Event → Event) (R : A → B → Type 0) (s : Music-F A → A)
    (t : Music-F B → B) : Type 0 where
  pub note : (e : Event) → R (s (Music-F.Note (g e))) (t (Music-F.Note e))
  pub rest : (e : Event) → R (s (Music-F.Rest (g e))) (t (Music-F.Rest e))
  pub grace : (xs : List A) (ys : List B) (slash : Bool)
      → AllZip R xs ys → R (s (Music-F.Grace xs slash)) (t (Music-F.Grace ys slash))
  pub tuplet : (xs : List A) (ys : List B) (p q : ℕ)
      → AllZip R xs ys → R (s (Music-F.Tuplet p q xs)) (t (Music-F.Tuplet p q ys))

abbrev Kept : {A B : Type 0} → (Event → Event) → (A → B → Type 0) → (Music-F A → A) → (Music-F B → B) → Music → Type 0
Kept {A} {B} g R s t m = R (fold-Music A s (changed g m)) (fold-Music B t m)

zipped : {A B : Type 0} (g : Event → Event) (R : A → B → Type 0) (s : Music-F A → A) (t : Music-F B → B)
    (ms : List ((m : Music) × Kept g R s t m))
    → AllZip R (map (fold-Music A s) (map (changed g) (map (λ e. e.0) ms))) (map (fold-Music B t) (map (λ e. e.0) ms))
zipped g R s t [] = tt
zipped g R s t (m ∷ ms) = (m.1, zipped g R s t ms)

layer : {A B : Type 0} (g : Event → Event) (R : A → B → Type 0) (s : Music-F A → A) (t : Music-F B → B)
    → Keeps g R s t → (y : Music-F ((m : Music) × Kept g R s t m))
    → let nodes = map-Music ((m : Music) × Kept g R s t m) Music (λ e. e.0) y in
    R (s (map-Music Music A (fold-Music A s) (changed_layer g (map-Music Music Music (changed g) nodes))))
    (t (map-Music Music B (fold-Music B t) nodes))
layer g R s t k (Music-F.Note e) = k.note e
layer g R s t k (Music-F.Rest e) = k.rest e
layer g R s t k (Music-F.Grace body slash) = k.grace _ _ slash (zipped g R s t body)
layer g R s t k (Music-F.Tuplet p q body) = k.tuplet _ _ p q (zipped g R s t body)

folds_keep : {A B : Type 0} (g : Event → Event) (R : A → B → Type 0) (s : Music-F A → A) (t : Music-F B → B)
    → Keeps g R s t → (m : Music) → R (fold-Music A s (changed g m)) (fold-Music B t m)
folds_keep {A} {B} g R s t k = ind-Music (Kept g R s t) (λ x y is.
    let after = λ (z : Music-F Music).
    s (map-Music Music A (fold-Music A s) (changed_layer g (map-Music Music Music (changed g) z))) in
    subst (λ a. R a (fold-Music B t (roll-Music x)))
    (sym (ap (fold-Music A s) (fold-roll-Music Music (changed_step g) x)
    ∙ fold-roll-Music A s (changed_layer g (map-Music Music Music (changed g) x))))
    (subst (R (after x)) (sym (fold-roll-Music B t x))
    (subst (λ z. R (after z) (t (map-Music Music B (fold-Music B t) z))) is (layer g R s t k y))))

pub all_keep : {A B : Type 0} (g : Event → Event) (R : A → B → Type 0) (s : Music-F A → A) (t : Music-F B → B)
    → Keeps g R s t → (ms : List Music)
    → AllZip R (map (fold-Music A s) (map (changed g) ms)) (map (fold-Music B t) ms)
all_keep g R s t k [] = tt
all_keep g R s t k (m ∷ ms) = (folds_keep g R s t k m, all_keep g R s t k ms)

-- ---- a fold that does not see the change
abbrev Equal : {A : Type 0} → A → A → Type 0
Equal a b = a ≡ b

equal : {A : Type 0} (xs ys : List A) → AllZip Equal xs ys → xs ≡ ys
equal xs ys z = sym (same_from_all_zip Equal xs ys z (λ x y e. sym e))

pub fold_same : {A : Type 0} (g : Event → Event) (step : Music-F A → A)
    → ((e : Event) → step (Music-F.Note (g e)) ≡ step (Music-F.Note e))
    → ((e : Event) → step (Music-F.Rest (g e)) ≡ step (Music-F.Rest e))
    → (body : List Music) → map (fold-Music A step) (map (changed g) body) ≡ map (fold-Music A step) body
fold_same {A} g step note rest body =
    let k : Keeps g Equal step step = record {
      note = note;
      rest = rest;
      grace = λ xs ys slash z. ap (λ zs. step (Music-F.Grace zs slash)) (equal xs ys z);
      tuplet = λ xs ys p q z. ap (λ zs. step (Music-F.Tuplet p q zs)) (equal xs ys z);
    } in
    equal (map (fold-Music A step) (map (changed g) body)) (map (fold-Music A step) body)
    (all_keep g Equal step step k body)

-- ---- the events of a changed tree are the changed events of the tree
abbrev waiting : (Event → Event) → PendingLeaf → PendingLeaf
waiting g w = record w { graces = map g w.graces }

abbrev leaving : (Event → Event) → Leaves → Leaves
leaving g l = record { flats = map (changed_flat g) l.flats; waits = waiting g l.waits }

abbrev Changes : (Event → Event) → Leafing → Leafing → Type 0
Changes g l k = (qs ps : ℕ) (w : PendingLeaf) → l qs ps (waiting g w) ≡ leaving g (k qs ps w)

joined : (g : Event → Event) (first others a b : Leaves) → a ≡ leaving g first → b ≡ leaving g others
    → ◌≡◌ {A = Leaves} (record { flats = a.flats ++ b.flats; waits = b.waits })
    (leaving g (record { flats = first.flats ++ others.flats; waits = others.waits }))
joined g first others a b e f = rw (e, f, map-append (changed_flat g) first.flats others.flats) refl

row : (g : Event → Event) (ls ks : List Leafing) → AllZip (Changes g) ls ks → Changes g (in_row ls) (in_row ks)
row g [] [] z qs ps w = refl
row g [] (k ∷ ks) z qs ps w = absurd z
row g (l ∷ ls) [] z qs ps w = absurd z
row g (l ∷ ls) (k ∷ ks) z qs ps w =
    let e = z.0 qs ps w in
    joined g (k qs ps w) (in_row ks qs ps (k qs ps w).waits) (l qs ps (waiting g w))
    (in_row ls qs ps (l qs ps (waiting g w)).waits) e
    (ap (λ (x : Leaves). in_row ls qs ps x.waits) e ∙ row g ls ks z.1 qs ps (k qs ps w).waits)

events_changed : (g : Event → Event) (fs : List Flat)
    → map (λ f. f.event) (map (changed_flat g) fs) ≡ map g (map (λ f. f.event) fs)
events_changed g [] = refl
events_changed g (f ∷ fs) = ap (λ es. g f.event ∷ es) (events_changed g fs)

grace_changed : (g : Event → Event) (w : PendingLeaf) (here others : Leaves)
    → here ≡ leaving g others
    → map g w.graces ++ map (λ f. f.event) here.flats ≡ map g (w.graces ++ map (λ f. f.event) others.flats)
grace_changed g w here others e =
    rw (e, events_changed g others.flats, map-append g w.graces (map (λ f. f.event) others.flats)) refl

leaf_changed : (g : Event → Event)
    → ((e : Event) → (g e).ticks ≡ e.ticks) → (e : Event) → Changes g (leaf (g e)) (leaf e)
leaf_changed g keeps e qs ps w = rw (keeps e) refl

pub flats_changed : (g : Event → Event)
    → ((e : Event) → (g e).ticks ≡ e.ticks) → (body : List Music)
    → flats_of (map (changed g) body) ≡ map (changed_flat g) (flats_of body)
flats_changed g keeps body =
    let k : Keeps g (Changes g) leaves_step leaves_step = record {
      note = leaf_changed g keeps;
      rest = leaf_changed g keeps;
      grace =
          λ xs ys slash z qs ps w.
          rw (grace_changed g w (in_row xs 1 1 no_pending_leaf) (in_row ys 1 1 no_pending_leaf)
          (row g xs ys z 1 1 no_pending_leaf))
          refl;
      tuplet = λ xs ys p q z qs ps w. row g xs ys z (qs * q) (ps * p) (record w { tuplets = w.tuplets ++ p ∷ [] });
    } in
    ap (λ (l : Leaves). l.flats)
    (row g (map leaves_within (map (changed g) body)) (map leaves_within body)
    (all_keep g (Changes g) leaves_step leaves_step k body) 1 1 no_pending_leaf)

-- ---- when nothing changes
abbrev Same : Music → Type 0
Same m = changed (λ e. e) m ≡ m

body_same : (ms : List ((m : Music) × Same m)) → map (changed (λ e. e)) (map (λ e. e.0) ms) ≡ map (λ e. e.0) ms
body_same [] = refl
body_same (m ∷ ms) = ap (λ x. x ∷ map (changed (λ e. e)) (map (λ e. e.0) ms)) m.1 ∙ ap (λ xs. m.0 ∷ xs) (body_same ms)

layer_same : (y : Music-F ((m : Music) × Same m))
    → let nodes = map-Music ((m : Music) × Same m) Music (λ e. e.0) y in
    changed_layer (λ e. e) (map-Music Music Music (changed (λ e. e)) nodes) ≡ nodes
layer_same (Music-F.Note e) = refl
layer_same (Music-F.Rest e) = refl
layer_same (Music-F.Grace body slash) = ap (λ b. Music-F.Grace b slash) (body_same body)
layer_same (Music-F.Tuplet p q body) = ap (λ b. Music-F.Tuplet p q b) (body_same body)

unchanged : (m : Music) → changed (λ e. e) m ≡ m
unchanged = ind-Music Same (λ x y is.
    fold-roll-Music Music (changed_step (λ e. e)) x
    ∙ ap roll-Music
    (subst (λ z. changed_layer (λ e. e) (map-Music Music Music (changed (λ e. e)) z) ≡ z) is (layer_same y)))

pub bodies_unchanged : (body : List Music) → map (changed (λ e. e)) body ≡ body
bodies_unchanged body = ap (λ g. map g body) (fun_ext unchanged) ∙ map-id body
