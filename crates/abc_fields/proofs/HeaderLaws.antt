-- Good fields yield good values, and the ids that fields mention are distinct.
use Rattle.std.proofs.Common.{◌≡◌, refl, ap, sym, ◌∙◌, ℕ, suc, ◌+◌, ◌≤◌, List, [], ◌∷◌, ◌++◌, Bool, true, false, map}
use Rattle.std.proofs.Common.{length, arith, subst, cond, Bor}
use Rattle.std.proofs.{Common.{◌<◌, get_or, drop, drop-cons, append_assoc}, lemmas.{Bool.cond_both, List.length-map}}
use Rattle.std.proofs.lemmas.{List.Sums.{sum_by-append, sum_by-cons}, Slice.Eq.bytes_eq-Decides}
use Rattle.std.specs.Prelude.{Option, Some, None, IfSome, count_by, fold, Ok}
use Rattle.std.specs.List.{list_any}
use Rattle.std.specs.Option.{option_or, option_copied}
use Rattle.std.specs.Str.{bytes_eq}
use Rattle.mus_units.specs.declared.value.Frac.{Frac}
use Rattle.mus_units.specs.Good.{IsGoodMeter, IsGoodUnit}
use Rattle.abc_lines.specs.declared.book.Line.{Line}
use Rattle.abc_field.specs.declared.field.Field.{Field}
use Rattle.abc_field.specs.declared.key.KeyText.{KeyText}
use Rattle.abc_field.specs.declared.voice.VoiceDef.{VoiceDef}
use Rattle.abc_field.specs.Fields.{IsGoodField, field_of}
use Rattle.abc_field.{specs.{Keys.IsGoodKeyText, Last.last_of}, proofs.ReadLaws.by_test}
use Rattle.abc_fields.specs.Good.{GoodUnitIn}
use Rattle.abc_fields.specs.Headers.{AreGoodFields, AreDistinct, key_in, meter_in, unit_in, fields_of, first_fault}
use Rattle.abc_fields.specs.Headers.{field_fault}
use Rattle.abc_fields.specs.Voicing.{ids_after, ids_of, voice_from, voices_of}

or-some : {X : Type 0} (P : X → Type 0) (a b : Option X) → IfSome a P → IfSome b P → IfSome (option_or a b) P
or-some P None b ha hb = hb
or-some P (Some x) b ha hb = ha

last-good : {X : Type 0} (P : X → Type 0) (f : Field → Option X)
    → ((field : Field) → IsGoodField field → IfSome (f field) P) → (fs : List Field)
    → AreGoodFields fs → IfSome (last_of f fs) P
last-good P f one [] all = tt
last-good P f one (field ∷ fs) all = or-some P (last_of f fs) (f field) (last-good P f one fs all.1) (one field all.0)

key-some : (field : Field) → IsGoodField field → IfSome (key_in field) (λ k. IsGoodKeyText k)
key-some (Field.Key k) good = good
key-some _ good = tt

meter-some : (field : Field) → IsGoodField field → IfSome (meter_in field) (λ m. IsGoodMeter m)
meter-some (Field.Meter m) good = good
meter-some _ good = tt

unit-some : (field : Field) → IsGoodField field → IfSome (unit_in field) (λ u. IsGoodUnit u)
unit-some (Field.Unit u) good = good
unit-some _ good = tt

pub last_key-good : (fs : List Field) → AreGoodFields fs → IfSome (last_of key_in fs) (λ k. IsGoodKeyText k)
last_key-good fs all = last-good (λ k. IsGoodKeyText k) key_in key-some fs all

pub last_meter-good : (fs : List Field) → AreGoodFields fs → IfSome (last_of meter_in fs) (λ m. IsGoodMeter m)
last_meter-good fs all = last-good (λ m. IsGoodMeter m) meter_in meter-some fs all

unit_in-good : (o : Option Frac) → IfSome o (λ u. IsGoodUnit u) → GoodUnitIn o
unit_in-good None h = tt
unit_in-good (Some u) h = h

pub last_unit-good : (fs : List Field) → AreGoodFields fs → GoodUnitIn (last_of unit_in fs)
last_unit-good fs all = unit_in-good (last_of unit_in fs) (last-good (λ u. IsGoodUnit u) unit_in unit-some fs all)

pub good_copied : (o : Option (Bor KeyText))
    → IfSome (option_copied o) (λ k. IsGoodKeyText k) → IfSome o (λ text. IsGoodKeyText text.now)
good_copied None h = tt
good_copied (Some text) h = h

good_push : (fs : List Field) (f : Field) → AreGoodFields fs → IsGoodField f → AreGoodFields (fs ++ f ∷ [])
good_push [] f all good = (good, tt)
good_push (g ∷ fs) f all good = (all.0, good_push fs f all.1 good)

count_by-cons : {X : Type 0} (p : X → Bool) (x : X) (xs : List X) → count_by p (x ∷ xs) ≡ cond (p x) 1 0 + count_by p xs
count_by-cons p x xs = sum_by-cons (λ y. cond (p y) 1 0) x xs

count_by-push : {X : Type 0} (p : X → Bool) (xs : List X) (x : X)
    → count_by p (xs ++ x ∷ []) ≡ count_by p xs + cond (p x) 1 0
count_by-push p xs x = omega (arith, sum_by-append (λ y. cond (p y) 1 0) xs (x ∷ []), count_by-cons p x [])

abbrev Once : List (List ℕ) → Type 0
Once ids = (id : List ℕ) → count_by (bytes_eq id) ids ≤ 1

none_counted : {X : Type 0} (p : X → Bool) (xs : List X) → list_any p xs ≡ false → count_by p xs ≡ 0
none_counted p [] none = refl
none_counted p (x ∷ xs) none =
    by_test (p x) (λ e. let some : list_any p (x ∷ xs) ≡ true = rw e refl in cc)
    (λ e. rw (count_by-cons p x xs, e) (omega (arith, none_counted p xs (rw e at none))))

once_new : (ids : List (List ℕ)) (id : List ℕ) → list_any (bytes_eq id) ids ≡ false → Once ids → Once (ids ++ id ∷ [])
once_new ids id new once x =
    by_test (bytes_eq x id)
    (λ e.
    let same : id ≡ x = sym ((bytes_eq-Decides x id).0 e) in
    let none : count_by (bytes_eq x) ids ≡ 0 =
    subst (λ y. count_by (bytes_eq y) ids ≡ 0) same (none_counted (bytes_eq id) ids new) in
    rw (count_by-push (bytes_eq x) ids id, none, e) (omega arith))
    (λ e. rw (count_by-push (bytes_eq x) ids id, e) (omega (arith, once x)))

once_after : (ids : List (List ℕ)) (f : Field) → Once ids → Once (ids_after ids f)
once_after ids (Field.Voice def) once =
    cond_both (list_any (bytes_eq def.id) ids) ids _ Once (λ known. once) (λ new. once_new ids def.id new once)
once_after ids _ once = once

once_all : (fs : List Field) (ids : List (List ℕ)) → Once ids → Once (fold ids_after ids fs)
once_all [] ids once = once
once_all (f ∷ fs) ids once = once_all fs (ids_after ids f) (once_after ids f once)

voices_counted : (fs : List Field) (ids : List (List ℕ)) (id : List ℕ)
    → count_by (λ (def : VoiceDef). bytes_eq id def.id) (map (voice_from fs) ids) ≡ count_by (bytes_eq id) ids
voices_counted fs [] id = refl
voices_counted fs (i ∷ ids) id =
    count_by-cons (λ (def : VoiceDef). bytes_eq id def.id) (voice_from fs i) (map (voice_from fs) ids)
    ∙ ap (λ n. cond (bytes_eq id i) 1 0 + n) (voices_counted fs ids id) ∙ sym (count_by-cons (bytes_eq id) i ids)

-- no two voices of fields have the same id
pub voices-distinct : (fs : List Field) → AreDistinct (voices_of fs)
voices-distinct fs id = rw (voices_counted fs (ids_of fs) id) (once_all fs [] (λ x. omega arith) id)

pub voices-few : (fs : List Field) → length (ids_of fs) ≤ 16 → length (voices_of fs) ≤ 16
voices-few fs few = omega (arith, length-map (ids_of fs) (voice_from fs))

-- how far the lines of a header have been read: what is left, with what was read, is the whole
pub record Stage (lines : List Line) (i : ℕ) (done : List Field) (known : List (List ℕ)) : Type 0 where
  pub fields_so_far : done ++ fields_of (drop i lines) ≡ fields_of lines
  pub ids_so_far : fold ids_after known (fields_of (drop i lines)) ≡ ids_of (fields_of lines)
  pub fault_ahead : first_fault known (drop i lines) ≡ first_fault [] lines
  pub all_good : AreGoodFields done
  pub few_known : length known ≤ 16

pub stage_more : (lines : List Line) (i : ℕ) (line : Line) (done new : List Field) (known now : List (List ℕ))
    (f : Field)
    → i < length lines → line ≡ get_or lines i line → new ≡ done ++ f ∷ [] → field_of line.text ≡ Ok f
    → now ≡ ids_after known f
    → field_fault known line (Ok f) ≡ None → IsGoodField f → length now ≤ 16 → Stage lines i done known
    → Stage lines (i + 1) new now
stage_more lines i line done new known now f inside here pushed read noted none good few stage =
    let one : i + 1 ≡ suc i = omega arith in
    let rest : List Line = drop (suc i) lines in
    let cut : drop i lines ≡ line ∷ rest = drop-cons lines i line inside ∙ ap (λ l. l ∷ rest) (sym here) in
    rw (one, pushed, noted) (record {
      fields_so_far = append_assoc done (f ∷ []) (fields_of rest) ∙ rw (cut, read) at stage.fields_so_far;
      ids_so_far = rw (cut, read) at stage.ids_so_far;
      fault_ahead = rw (cut, read, none) at stage.fault_ahead;
      all_good = good_push done f stage.all_good good;
      few_known = subst (λ ids. length ids ≤ 16) noted few;
    })
