-- Ids kept as keys of a set are the same as ids kept as bytes.
use Rattle.std.proofs.Common.{◌≡◌, refl, ap, sym, ◌∙◌, ℕ, List, [], ◌∷◌, ◌++◌, map, suc, ◌+◌, ◌<◌, length, get_or, drop}
use Rattle.std.proofs.Common.{drop-cons, append_assoc}
use Rattle.std.{proofs.{Common.{arith}, lemmas.{List.map-append, Simd.map-map}}, specs.{Prelude.◌||◌, List.list_any}}
use Rattle.std.specs.Str.{bytes_eq}
use Rattle.indexmap.specs.IndexSet.{insert_key}
use Rattle.abc_field.specs.declared.field.Field.{Field}
use Rattle.abc_field.specs.declared.voice.VoiceDef.{VoiceDef}
use Rattle.abc_field.proofs.ReadLaws.{by_test}
use Rattle.abc_fields.specs.Voicing.{with_id, voice_from}

any_by_name : {X : Type 0} (f : X → List ℕ) (ks : List X) (k : X)
    → list_any (λ y. bytes_eq (f k) (f y)) ks ≡ list_any (bytes_eq (f k)) (map f ks)
any_by_name f [] k = refl
any_by_name f (x ∷ ks) k = ap (λ b. bytes_eq (f k) (f x) || b) (any_by_name f ks k)

-- inserting a key mentions its id
pub names_insert : {X : Type 0} (f : X → List ℕ) (ks : List X) (k : X)
    → map f (insert_key (λ x y. bytes_eq (f x) (f y)) ks k) ≡ with_id (map f ks) (f k)
names_insert f ks k =
    rw (sym (any_by_name f ks k))
    (by_test (list_any (λ y. bytes_eq (f k) (f y)) ks) (λ e. rw e refl) (λ e. rw e (map-append f ks (k ∷ []))))

-- voices by the ids of keys
pub voices_by_key : {X : Type 0} (f : X → List ℕ) (fs : List Field) (ks : List X)
    → map (λ k. voice_from fs (f k)) ks ≡ map (voice_from fs) (map f ks)
voices_by_key f fs ks = sym (map-map (voice_from fs) f ks)

-- one more voice is made, from the key at this index
pub voices-more : {X : Type 0} (f : X → VoiceDef) (ids : List X) (i : ℕ) (item : X) (done new : List VoiceDef)
    (def : VoiceDef)
    → i < length ids → item ≡ get_or ids i item → new ≡ done ++ def ∷ [] → def ≡ f item
    → done ++ map f (drop i ids) ≡ map f ids
    → new ++ map f (drop (i + 1) ids) ≡ map f ids
voices-more f ids i item done new def inside here pushed made so_far =
    let one : i + 1 ≡ suc i = omega arith in
    let rest : List VoiceDef = map f (drop (suc i) ids) in
    let cut : drop i ids ≡ item ∷ drop (suc i) ids =
    drop-cons ids i item inside ∙ ap (λ k. k ∷ drop (suc i) ids) (sym here) in
    rw (one, pushed, made) (append_assoc done (f item ∷ []) rest ∙ rw cut at so_far)
