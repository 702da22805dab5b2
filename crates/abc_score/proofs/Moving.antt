-- Steps move to their voices, item by item.
use Rattle.std.proofs.Common.{
  ◌≡◌,
  ◌≢◌,
  ◌∙◌,
  refl,
  sym,
  ap,
  subst,
  ℕ,
  zero,
  suc,
  ◌+◌,
  ◌<◌,
  ◌≤◌,
  ◌^◌,
  List,
  [],
  ◌∷◌,
  ◌++◌,
}
use Rattle.std.proofs.Common.{map, length, set, get_or, take, drop, Bool, true, false, cond, arith, append_assoc}
use Rattle.std.proofs.Common.{append-nil, drop-cons, ⊎_elim, None, not, nat_lt}
use Rattle.std.proofs.lemmas.Bool.{cases_Bool, ltb-false}
use Rattle.std.proofs.lemmas.List.{drop-set-lt, take_more_set, take_all, drop_all}
use Rattle.std.proofs.lemmas.List.Elements.{All-nil, All-cons, All-head, All-tail}
use Rattle.std.proofs.lemmas.Slice.Eq.{bytes_eq-Decides}
use Rattle.std.specs.Prelude.{position}
use Rattle.std.specs.List.{All, position_or_len}
use Rattle.std.specs.Str.{bytes_eq}
use Rattle.abc_fields.specs.{declared.header.Header.Header, Headers.HasGoodValues}
use Rattle.abc_steps.specs.declared.step.BodyItem.{BodyItem}
use Rattle.abc_steps.specs.declared.step.PlacedStep.{PlacedStep}
use Rattle.abc_items.specs.declared.voices.VoiceStart.{VoiceStart}
use Rattle.abc_items.specs.Good.{IsGoodItem}
use Rattle.abc_items.specs.Voices.{one_if, own_next, steps_from, steps_in, unnamed_of, voice_next}
use Rattle.abc_items.proofs.Laws.{steps_good}
use Rattle.abc_words.proofs.VerseLaws.{verses_within}
use Rattle.abc_score.proofs.Verses.{verses_rise}
use Rattle.abc_score.specs.declared.voices.ReadVoice.{ReadVoice}
use Rattle.abc_score.specs.Order.{DoWordsRise}
use Rattle.abc_score.specs.Steps.{with_item, with_items, with_steps}
use Rattle.abc_score.specs.Voices.{AreDistinctIds, IsGoodRead, IsNoneOfIds, read_ids, voice_before, voice_read}

-- one element changed in a walk that changes each
pub changed : {X : Type 0} (f : X → X) (xs ys all : List X) (i : ℕ) (x y : X)
    → i < length xs → x ≡ get_or xs i x → y ≡ f x → ys ≡ set xs i y
    → take i xs ++ map f (drop i xs) ≡ all → take (i + 1) ys ++ map f (drop (i + 1) ys) ≡ all
changed f xs ys all i x y inside here is put so_far =
    let one : suc i ≡ i + 1 = omega arith in
    let cut : drop i xs ≡ x ∷ drop (i + 1) xs =
    drop-cons xs i x inside ∙ ap (λ z. z ∷ drop (suc i) xs) (sym here) ∙ ap (λ n. x ∷ drop n xs) one in
    rw put (ap (λ z. z ++ map f (drop (i + 1) (set xs i y))) (take_more_set xs i y inside)
    ∙ append_assoc (take i xs) (y ∷ []) (map f (drop (i + 1) (set xs i y)))
    ∙ ap (λ ws. take i xs ++ y ∷ map f ws) (drop-set-lt (i + 1) xs i y (omega arith))
    ∙ ap (λ z. take i xs ++ z ∷ map f (drop (i + 1) xs)) is
    ∙ ap (λ ws. take i xs ++ map f ws) (sym cut)
    ∙ so_far)

pub all_changed : {X : Type 0} (f : X → X) (xs all : List X) (i : ℕ)
    → length xs ≤ i → take i xs ++ map f (drop i xs) ≡ all → xs ≡ all
all_changed f xs all i past so_far =
    sym (append-nil xs)
    ∙ ap (λ z. z ++ []) (sym (take_all i xs past))
    ∙ ap (λ z. take i xs ++ map f z) (sym (drop_all i xs past))
    ∙ so_far

-- a step goes to the voice with the id, and to no other
not_same : (s t : List ℕ) → s ≢ t → bytes_eq s t ≡ false
not_same s t differ =
    ⊎_elim (λ e. absurd (differ ((bytes_eq-Decides s t).0 e))) (λ e. e) (cases_Bool (bytes_eq s t))

unmoved : (v : ReadVoice) (own : Bool) (s : PlacedStep) → own ≡ false → with_steps v (one_if own s) ≡ v
unmoved v own s other = rw other (ap (λ steps. record v { steps = steps }) (append-nil v.steps))

others_unmoved : (id : List ℕ) (s : PlacedStep) (voices : List ReadVoice)
    → IsNoneOfIds id (read_ids voices) → map (with_item id (BodyItem.Step s)) voices ≡ voices
others_unmoved id s [] others = refl
others_unmoved id s (v ∷ voices) others =
    let here = unmoved v (bytes_eq v.start.id id) s (not_same v.start.id id (λ e. others.0 (sym e))) in
    cc (here, others_unmoved id s voices others.1)

none_at : (id : List ℕ) (voices : List ReadVoice) (k : ℕ) (d : ReadVoice)
    → IsNoneOfIds id (read_ids voices) → k < length voices → id ≢ (get_or voices k d).start.id
none_at id (v ∷ voices) zero d others inside = others.0
none_at id (v ∷ voices) (suc k) d others inside = none_at id voices k d others.1 (omega arith)
none_at id [] k d others inside = absurd (omega arith)

pub step_moved : (id : List ℕ) (s : PlacedStep) (voices : List ReadVoice) (k : ℕ) (d : ReadVoice)
    → AreDistinctIds (read_ids voices) → k < length voices → bytes_eq (get_or voices k d).start.id id ≡ true
    → set voices k (with_steps (get_or voices k d) (s ∷ [])) ≡ map (with_item id (BodyItem.Step s)) voices
step_moved id s (v ∷ voices) zero d apart inside same =
    let is : v.start.id ≡ id = (bytes_eq-Decides v.start.id id).0 same in
    let others = others_unmoved id s voices (subst (λ i. IsNoneOfIds i (read_ids voices)) is apart.0) in
    rw same (ap (λ vs. with_steps v (s ∷ []) ∷ vs) (sym others))
step_moved id s (v ∷ voices) (suc k) d apart inside same =
    let is : (get_or voices k d).start.id ≡ id = (bytes_eq-Decides (get_or voices k d).start.id id).0 same in
    let other : v.start.id ≢ id = λ e. none_at v.start.id voices k d apart.0 (omega arith) (e ∙ sym is) in
    let here = unmoved v (bytes_eq v.start.id id) s (not_same v.start.id id other) in
    cc (here, step_moved id s voices k d apart.1 (omega arith) same)
step_moved id s [] k d apart inside same = absurd (omega arith)

abbrev has_id : List ℕ → ReadVoice → Bool
has_id id v = bytes_eq v.start.id id

none_with_id : (id : List ℕ) (s : PlacedStep) (voices : List ReadVoice)
    → length voices ≤ position_or_len (has_id id) voices → map (with_item id (BodyItem.Step s)) voices ≡ voices
none_with_id id s [] none = refl
none_with_id id s (v ∷ voices) none =
    by_test (bytes_eq v.start.id id) refl none (λ (less : length voices ≤ position_or_len (has_id id) voices).
    none_with_id id s voices less) where
      by_test : (b : Bool) → bytes_eq v.start.id id ≡ b
          → suc (length voices) ≤ cond (not b) (1 + position_or_len (has_id id) voices) 0
          → (length voices ≤ position_or_len (has_id id) voices
          → map (with_item id (BodyItem.Step s)) voices ≡ voices)
          → map (with_item id (BodyItem.Step s)) (v ∷ voices) ≡ v ∷ voices
      by_test true same none others = absurd (omega arith)
      by_test false other none others = cc (unmoved v (bytes_eq v.start.id id) s other, others (omega arith))

pub none_moved : (id : List ℕ) (s : PlacedStep) (voices : List ReadVoice)
    → position (λ (v : ReadVoice). bytes_eq v.start.id id) voices ≡ None
    → map (with_item id (BodyItem.Step s)) voices ≡ voices
none_moved id s voices none =
    ⊎_elim (λ e. let found = rw e at none in absurd cc)
    (λ e. none_with_id id s voices (ltb-false (position_or_len (has_id id) voices) (length voices) e))
    (cases_Bool (nat_lt (position_or_len (has_id id) voices) (length voices)))

-- item after item
next_own : (id current : List ℕ) (i : BodyItem)
    → own_next id (bytes_eq id current) i ≡ bytes_eq id (voice_next i current)
next_own id current (BodyItem.Step s) = refl
next_own id current (BodyItem.LineEnd joined breaks line column) = refl
next_own id current (BodyItem.Voice def line column) = refl
next_own id current (BodyItem.Words text line) = refl

one_more : (current : List ℕ) (i : BodyItem) (items : List BodyItem) (v : ReadVoice)
    → with_items (voice_next i current) items (with_item current i v) ≡ with_items current (i ∷ items) v
one_more current i items v =
    let id = v.start.id in let here = steps_in id (bytes_eq id current) i in
    ap (λ steps. record v { steps = steps })
    (append_assoc v.steps here (steps_from id (bytes_eq id (voice_next i current)) items)
    ∙ ap (λ own. v.steps ++ (here ++ steps_from id own items)) (sym (next_own id current i)))

pub more_moved : (current : List ℕ) (i : BodyItem) (items : List BodyItem) (voices : List ReadVoice)
    → map (with_items (voice_next i current) items) (map (with_item current i) voices)
    ≡ map (with_items current (i ∷ items)) voices
more_moved current i items [] = refl
more_moved current i items (v ∷ voices) = cc (one_more current i items v, more_moved current i items voices)

pub ids_kept : (current : List ℕ) (i : BodyItem) (voices : List ReadVoice)
    → read_ids (map (with_item current i) voices) ≡ read_ids voices
ids_kept current i [] = refl
ids_kept current i (v ∷ voices) = ap (λ ids. v.start.id ∷ ids) (ids_kept current i voices)

pub none_added : (voices : List ReadVoice) → map (λ v. with_steps v []) voices ≡ voices
none_added [] = refl
none_added (v ∷ voices) = cc (ap (λ steps. record v { steps = steps }) (append-nil v.steps), none_added voices)

pub voices_are_read : (header : Header) (items : List BodyItem) (starts : List VoiceStart)
    → map (with_items (unnamed_of header) items) (map (voice_before header items) starts)
    ≡ map (voice_read header items) starts
voices_are_read header items [] = refl
voices_are_read header items (start ∷ starts) =
    ap (λ vs. voice_read header items start ∷ vs) (voices_are_read header items starts)

pub before_apart : (header : Header) (items : List BodyItem) (starts : List VoiceStart)
    → read_ids (map (voice_before header items) starts) ≡ read_ids (map (voice_read header items) starts)
before_apart header items [] = refl
before_apart header items (start ∷ starts) = ap (λ ids. start.id ∷ ids) (before_apart header items starts)

-- the voices that are read are good
abbrev pub IsShort : ReadVoice → Type 0
IsShort v = length v.steps ≤ 2 ^ 30

pub reads_good : (header : Header) (items : List BodyItem) (starts : List VoiceStart)
    → HasGoodValues header → All IsGoodItem items → DoWordsRise items
    → All IsShort (map (voice_read header items) starts)
    → All IsGoodRead (map (voice_read header items) starts)
reads_good header items [] good given rise few = All-nil IsGoodRead
reads_good header items (start ∷ starts) good given rise few =
    let unnamed = unnamed_of header in
    let first : IsGoodRead (voice_read header items start) = record {
      few = All-head IsShort (voice_read header items start) (map (voice_read header items) starts) few;
      first = record { key = good.key; meter = good.meter; unit = good.unit };
      steps = steps_good start.id (bytes_eq start.id unnamed) items given;
      on_rows = verses_within start.id unnamed items;
      rise = verses_rise start.id unnamed items rise;
    } in
    All-cons IsGoodRead (voice_read header items start) (map (voice_read header items) starts) first
    (reads_good header items starts good given rise
    (All-tail IsShort (voice_read header items start) (map (voice_read header items) starts) few))
