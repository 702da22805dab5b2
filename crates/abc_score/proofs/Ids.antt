-- The voices of a body: no two have the same id, and at most 16 are mentioned.
use Rattle.std.specs.Prelude.{◌≢◌, count_by, fold, nat_lt}
use Rattle.std.specs.List.{list_any}
use Rattle.std.specs.Str.{bytes_eq}
use Rattle.std.proofs.lemmas.Slice.Eq.{bytes_eq-Decides}
use Rattle.std.proofs.Common.{◌≡◌, refl, sym, ap, subst, ℕ, ◌+◌, ◌≤◌, List, [], ◌∷◌, ◌++◌, length, map, Bool, true}
use Rattle.std.proofs.Common.{false, cond, None, ⊎_elim, arith}
use Rattle.std.proofs.lemmas.Bool.{cases_Bool, cond_both, or_parts}
use Rattle.std.proofs.lemmas.Bool.Decides.{nat_tests, not_from_Decides}
use Rattle.std.proofs.lemmas.List.Sums.{sum_by-cons}
use Rattle.std.proofs.lemmas.List.{length-map}
use Rattle.abc_lines.specs.declared.book.Line.{Line}
use Rattle.abc_field.specs.declared.voice.VoiceDef.{VoiceDef}
use Rattle.abc_steps.specs.declared.step.BodyItem.{BodyItem}
use Rattle.abc_fields.specs.{declared.header.Header.Header, Headers.{AreDistinct, HasGoodValues}, Voicing.with_id}
use Rattle.abc_score.specs.Voices.{AreDistinctIds, IsNoneOfIds, read_ids, voice_read, voices_read}
use Rattle.abc_items.specs.Body.{ItemOrFault, gives, fails, first_item_fault, items_in, judged_items, IsBody}
use Rattle.abc_items.specs.Voices.{claims, declared_ids, ids_after_item, ids_by_step, voice_ids, start_of, starts_of}

differ : (s t : List ℕ) → bytes_eq s t ≡ false → s ≢ t
differ s t e = not_from_Decides (bytes_eq s t) (bytes_eq-Decides s t) e

other_last : (id last : List ℕ) (ids : List (List ℕ))
    → id ≢ last → IsNoneOfIds id ids → IsNoneOfIds id (ids ++ last ∷ [])
other_last id last [] new others = (new, tt)
other_last id last (other ∷ ids) new others = (others.0, other_last id last ids new others.1)

apart_last : (id : List ℕ) (ids : List (List ℕ))
    → list_any (bytes_eq id) ids ≡ false → AreDistinctIds ids → AreDistinctIds (ids ++ id ∷ [])
apart_last id [] new apart = (tt, tt)
apart_last id (other ∷ ids) new apart =
    let parts = or_parts (bytes_eq id other) _ new in
    (other_last other id ids (λ e. differ id other parts.0 (sym e)) apart.0, apart_last id ids parts.1 apart.1)

-- declared voices
abbrev times : List ℕ → List VoiceDef → ℕ
times id defs = count_by (λ (def : VoiceDef). bytes_eq id def.id) defs

times_on : (id : List ℕ) (def : VoiceDef) (defs : List VoiceDef)
    → times id (def ∷ defs) ≡ cond (bytes_eq id def.id) 1 0 + times id defs
times_on id def defs = sum_by-cons (λ (d : VoiceDef). cond (bytes_eq id d.id) 1 0) def defs

not_counted : (id : List ℕ) (defs : List VoiceDef)
    → times id defs ≤ 0 → IsNoneOfIds id (map (λ (def : VoiceDef). def.id) defs)
not_counted id [] none = tt
not_counted id (def ∷ defs) none =
    let whole = times_on id def defs in
    ⊎_elim (λ e. let one = ap {B = ℕ} (λ t. cond t 1 0) e in absurd (omega (arith, whole, one, none)))
    (λ e. (differ id def.id e, not_counted id defs (omega (arith, whole, none))))
    (cases_Bool (bytes_eq id def.id))

declared_apart : (defs : List VoiceDef) → AreDistinct defs → AreDistinctIds (map (λ (def : VoiceDef). def.id) defs)
declared_apart [] distinct = tt
declared_apart (def ∷ defs) distinct =
    let once = distinct def.id in let itself = ap {B = ℕ} (λ t. cond t 1 0) ((bytes_eq-Decides def.id def.id).1 refl) in
    let others = declared_apart defs (λ id. omega (arith, times_on id def defs, distinct id)) in
    (not_counted def.id defs (omega (arith, itself, times_on def.id def defs, once)), others)

-- the ids of a body
item_apart : (ids : List (List ℕ)) (i : BodyItem) → AreDistinctIds ids → AreDistinctIds (ids_after_item ids i)
item_apart ids (BodyItem.Step s) apart = step_apart ids (claims s.step) apart where
  step_apart : (ids : List (List ℕ)) (claimed : Bool) → AreDistinctIds ids → AreDistinctIds (ids_by_step ids claimed)
  step_apart [] true apart = (tt, tt)
  step_apart [] false apart = tt
  step_apart (id ∷ ids) claimed apart = apart
item_apart ids (BodyItem.Voice def line column) apart =
    cond_both (list_any (bytes_eq def.id) ids) _ _ AreDistinctIds (λ e. apart) (λ e. apart_last def.id ids e apart)
item_apart ids _ apart = apart

items_apart : (ids : List (List ℕ)) (items : List BodyItem)
    → AreDistinctIds ids → AreDistinctIds (fold ids_after_item ids items)
items_apart ids [] apart = apart
items_apart ids (i ∷ items) apart = items_apart (ids_after_item ids i) items (item_apart ids i apart)

-- at most 16
few_by_step : (ids : List (List ℕ)) (claimed : Bool) → length ids ≤ 16 → length (ids_by_step ids claimed) ≤ 16
few_by_step [] true few = omega arith
few_by_step [] false few = few
few_by_step (id ∷ ids) claimed few = few

few_given : (ids : List (List ℕ)) (given : List ItemOrFault)
    → length ids ≤ 16 → first_item_fault (judged_items ids given) ≡ None
    → length (fold ids_after_item ids (items_in given)) ≤ 16
few_given ids [] few clear = few
few_given ids (fails fault ∷ given) few clear = absurd cc
few_given ids (gives (BodyItem.Step s) ∷ given) few clear =
    few_given (ids_by_step ids (claims s.step)) given (few_by_step ids (claims s.step) few) clear
few_given ids (gives (BodyItem.LineEnd joined breaks line column) ∷ given) few clear = few_given ids given few clear
few_given ids (gives (BodyItem.Words text line) ∷ given) few clear = few_given ids given few clear
few_given ids (gives (BodyItem.Voice def line column) ∷ given) few clear =
    ⊎_elim (λ e. let over = rw e at clear in absurd cc)
    (λ e. few_given (with_id ids def.id) given (grind (arith, nat_tests, e)) (rw e at clear))
    (cases_Bool (nat_lt 16 (length (with_id ids def.id))))

pub few_ids : (header : Header) (lines : List Line) (items : List BodyItem)
    → HasGoodValues header → IsBody header lines items
    → length (voice_ids header items) ≤ 16
few_ids header lines items good body =
    let declared = length-map header.voices (λ (def : VoiceDef). def.id) in
    subst (λ (is : List BodyItem). length (voice_ids header is) ≤ 16) (sym body.are)
    (few_given (declared_ids header) body.given (omega (arith, declared, good.few)) body.clear)

-- the ids of the voices that are read
ids_read : (header : Header) (items : List BodyItem) (ids : List (List ℕ))
    → read_ids (map (voice_read header items) (map (start_of header items) ids)) ≡ ids
ids_read header items [] = refl
ids_read header items (id ∷ ids) = ap (λ others. id ∷ others) (ids_read header items ids)

pub few_read : (header : Header) (items : List BodyItem)
    → length (voice_ids header items) ≤ 16 → length (voices_read header items) ≤ 16
few_read header items few =
    omega (
      arith,
      length-map (starts_of header items) (voice_read header items),
      length-map (voice_ids header items) (start_of header items),
      few,
    )

pub apart_read : (header : Header) (items : List BodyItem)
    → HasGoodValues header → AreDistinctIds (read_ids (voices_read header items))
apart_read header items good =
    subst AreDistinctIds (sym (ids_read header items (voice_ids header items)))
    (items_apart (declared_ids header) items (declared_apart header.voices good.distinct))
