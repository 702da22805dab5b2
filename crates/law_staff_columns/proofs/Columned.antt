-- The columns of a voice alone on its staff: at the key of each slot its notes, and the ties that end in its column. A
-- column that has no slot says nothing.
use Rattle.std.proofs.Common.{◌≡◌, ◌∙◌, refl, sym, ap, subst, ℕ, suc, ◌+◌, ◌<◌, ◌≤◌, ◌==◌, ℤ, inl, inr, Bool, true}
use Rattle.std.proofs.Common.{false, cond, if◌then◌else◌, List, [], ◌∷◌, ◌++◌, length, map, arith}
use Rattle.std.proofs.lemmas.Bool.{ne_eqb}
use Rattle.std.proofs.lemmas.Grind.{flat_map-append}
use Rattle.std.proofs.lemmas.List.{append-nil, map-id}
use Rattle.std.proofs.lemmas.List.Elements.{All-head, All-tail}
use Rattle.std.specs.List.{All, AllByRecursion, Contains, flat_map, slice_index_or}
use Rattle.mus_onsets.specs.declared.keys.ColumnKey.{ColumnKey}
use Rattle.mus_onsets.specs.Keys.{IsInSystem, head_key}
use Rattle.mus_onsets.specs.Order.{BelowAll, Rises, key_rank, same_key}
use Rattle.mus_onsets.proofs.RankLaws.{rank_at_place, rank_rises_more}
use Rattle.mus_laid.specs.declared.drawn.Bridge.{Bridge}
use Rattle.mus_laid.specs.declared.drawn.LaneInk.{LaneInk}
use Rattle.mus_laid.specs.declared.drawn.Ink.{Ink}
use Rattle.mus_laid.specs.declared.drawn.BridgeShape.{BridgeShape}
use Rattle.mus_laid.specs.declared.laid.Laid.{Laid}
use Rattle.mus_laid.specs.Ranked.{bridge_at, drawn_at, ink_at, span_at}
use Rattle.mus_words.specs.declared.texts.TextPlace.{TextPlace}
use Rattle.mus_slots.specs.declared.slots.Slot.{Slot}
use Rattle.mus_slots.specs.Staff.{column_at, column_marks, slots_at, written_marks}
use Rattle.mus_slots.specs.Voice.{keys_of}
use Rattle.mus_slots.proofs.Rising.{not_before}
use Rattle.mus_slots.proofs.ByKey.{AtMostOne, at, in_order, is_same, one_at, rank_same, some_at}
use Rattle.ps_heard.specs.declared.column.HeardColumn.{HeardColumn}
use Rattle.ps_heard.specs.declared.column.HeardGlyph.{HeardGlyph}
use Rattle.law_voice_sound.specs.Listened.{columns_heard}
use Rattle.law_voice_sound.proofs.Listening.{known_join}
use Rattle.law_staff_columns.specs.Ranked.{columns_after, noted_at, notes_at, rank_column, ranked_columns, tied_at}
use Rattle.law_staff_columns.specs.Ranked.{tie_ends_at}
use Rattle.law_staff_columns.proofs.Forms.{drawn_notes, ink_notes}
use Rattle.law_staff_columns.proofs.Noting.{written_quiet}

abbrev pub column : Bool → List HeardGlyph → List ℤ → HeardColumn
column leads ns ts = record { leads = leads; notes = ns; ties = ts }

-- ---- what is said
pub known_same : (leads lead : Bool) (ns ms : List HeardGlyph) (ts us : List ℤ) (xs ys : List HeardColumn)
    → leads ≡ lead → ns ≡ ms → ts ≡ us → columns_heard xs ≡ columns_heard ys
    → columns_heard (column leads ns ts ∷ xs) ≡ columns_heard (column lead ms us ∷ ys)
known_same leads lead ns ms ts us xs ys e f g more = rw (e, f, g, more) refl

untold : (leads : Bool) (ns : List HeardGlyph) (ts : List ℤ)
    → leads ≡ false → ns ≡ [] → columns_heard (column leads ns ts ∷ []) ≡ []
untold leads ns ts e f = rw (e, f) refl

-- ---- notes and ties at a rank
ink_noted : (r q : ℕ) (ink : Ink) → noted_at r (ink_at q ink) ≡ (if r == q then ink_notes ink else [])
ink_noted r q ink = grind arith

drawn_noted : (r q : ℕ) (ds : List LaneInk) → notes_at (map (drawn_at q) ds) r ≡ (if r == q then drawn_notes ds else [])
drawn_noted r q [] = grind arith
drawn_noted r q (d ∷ ds) = grind (arith, ink_noted r q d.ink, drawn_noted r q ds)

ink_tied : (r q : ℕ) (ink : Ink) → tied_at r (ink_at q ink) ≡ []
ink_tied r q ink = grind arith

drawn_tied : (r q : ℕ) (ds : List LaneInk) → tie_ends_at (map (drawn_at q) ds) r ≡ []
drawn_tied r q [] = refl
drawn_tied r q (d ∷ ds) = simp (ink_tied, drawn_tied r q ds)

-- beams and arcs give no notes
span_noted : (r p q : ℕ) (span : BridgeShape) → noted_at r (span_at p q span) ≡ []
span_noted r p q span = grind arith

module _ (keys : List ColumnKey) where
  abbrev rank : ColumnKey → ℕ
  rank k = key_rank keys k

  bridges_noted : (r : ℕ) (bs : List Bridge) → notes_at (map (bridge_at keys) bs) r ≡ []
  bridges_noted r [] = refl
  bridges_noted r (b ∷ bs) = simp (span_noted, bridges_noted r bs)

  -- ---- slots
  -- the column of a slot, which leads its system if it is the first
  abbrev slot_said : (ℕ → List ℤ) → Slot → List HeardColumn
  slot_said ties s = column (rank s.key == 0) (drawn_notes s.drawn) (ties (rank s.key)) ∷ []

  -- that of a slot after the head
  abbrev pub slot_column : (ℕ → List ℤ) → Slot → HeardColumn
  slot_column ties s = column false (drawn_notes s.drawn) (ties (rank s.key))

  after_head : (ties : ℕ → List ℤ) (k : ColumnKey) (ss : List Slot)
      → Contains keys k → BelowAll k (keys_of ss) → flat_map (slot_said ties) ss ≡ map (slot_column ties) ss
  after_head ties k [] has below = refl
  after_head ties k (s ∷ ss) has below =
      let less = rank_rises_more keys k s.key below.0 has in
      ap (λ b. column b (drawn_notes s.drawn) (ties (rank s.key)) ∷ flat_map (slot_said ties) ss)
      (ne_eqb (rank s.key) 0 (λ e. omega (arith, e, less)))
      ∙ ap (λ t. slot_column ties s ∷ t) (after_head ties k ss has below.1)

  module _ (rise : Rises keys) (place : TextPlace) (ss : List Slot) (bs : List Bridge) where
    abbrev column_laid : ColumnKey → List Laid
    column_laid = column_at keys place (ss ∷ [])

    abbrev notes_of : ColumnKey → List HeardGlyph
    notes_of k = drawn_notes (column_marks place (slots_at k ss ++ []))

    abbrev bridges : List Laid
    bridges = map (bridge_at keys) bs

    abbrev all : List Laid
    all = flat_map column_laid keys ++ bridges

    abbrev ties : ℕ → List ℤ
    ties r = tie_ends_at bridges r

    none_tied : (r : ℕ) (ks : List ColumnKey) → tie_ends_at (flat_map column_laid ks) r ≡ []
    none_tied r [] = refl
    none_tied r (k ∷ ks) = simp (flat_map-append, drawn_tied, none_tied r ks)

    tied : (r : ℕ) → tie_ends_at all r ≡ ties r
    tied r =
        flat_map-append (λ (x : Laid). tied_at r x.mark) (flat_map column_laid keys) bridges
        ∙ ap (λ t. t ++ ties r) (none_tied r keys)

    -- the notes at a key
    noted : (k : ColumnKey) (ks : List ColumnKey)
        → Contains keys k → ((l : ColumnKey) → Contains ks l → Contains keys l)
        → notes_at (flat_map column_laid ks) (rank k) ≡ flat_map notes_of (at (λ l. l) k ks)
    noted k [] has among = refl
    noted k (l ∷ ks) has among =
        flat_map-append (λ (x : Laid). noted_at (rank k) x.mark) (column_laid l) (flat_map column_laid ks)
        ∙ ap (λ t. t ++ notes_at (flat_map column_laid ks) (rank k))
        (drawn_noted (rank k) (rank l) (column_marks place (slots_at l ss ++ []))
        ∙ ap (λ b. if b then notes_of l else []) (rank_same keys k l has (among l (0, omega arith, refl))))
        ∙ ap (λ t. (if same_key l k then notes_of l else []) ++ t)
        (noted k ks has (λ j (i, inside, is). among j (suc i, omega (arith, inside), is)))
        ∙ by (same_key l k)
      where
        by : (b : Bool)
            → (if b then notes_of l else []) ++ flat_map notes_of (at (λ l. l) k ks)
            ≡ flat_map notes_of (cond b (l ∷ at (λ l. l) k ks) (at (λ l. l) k ks))
        by true = refl
        by false = refl

    only_itself : (k : ColumnKey) → Contains keys k → at (λ l. l) k keys ≡ k ∷ []
    only_itself k has = by (one_at (λ l. l) k keys (subst Rises (sym (map-id keys)) rise))
        (some_at (λ l. l) k keys (subst (λ ks. Contains ks k) (sym (map-id keys)) has))
      where
        by : AtMostOne (λ l. l) k (at (λ l. l) k keys) → 1 ≤ length (at (λ l. l) k keys) → at (λ l. l) k keys ≡ k ∷ []
        by (inl e) some = absurd (let none = ap length e in omega (arith, none, some))
        by (inr (l, same, e)) some = e ∙ ap (λ l. l ∷ []) same

    notes_here : (k : ColumnKey) → Contains keys k → notes_at all (rank k) ≡ notes_of k
    notes_here k has =
        flat_map-append (λ (x : Laid). noted_at (rank k) x.mark) (flat_map column_laid keys) bridges
        ∙ ap (λ t. t ++ notes_at bridges (rank k))
        (noted k keys has (λ l inside. inside) ∙ ap (flat_map notes_of) (only_itself k has))
        ∙ ap (λ t. (notes_of k ++ []) ++ t) (bridges_noted (rank k) bs)
        ∙ append-nil (notes_of k ++ [])
        ∙ append-nil (notes_of k)

    -- a slot says what its column does
    quiet : (found : List Slot) (s : Slot)
        → found ≡ s ∷ [] → drawn_notes (column_marks place (found ++ [])) ≡ drawn_notes s.drawn
    quiet found s e =
        let words = written_marks place s.written in
        ap (λ t. drawn_notes (column_marks place (t ++ []))) e
        ∙ ap drawn_notes (append-nil (s.drawn ++ words))
        ∙ flat_map-append (λ (d : LaneInk). ink_notes d.ink) s.drawn words
        ∙ ap (λ t. drawn_notes s.drawn ++ t) (written_quiet place s.written)
        ∙ append-nil (drawn_notes s.drawn)

    module _ (own : Rises (keys_of ss)) (inside : AllByRecursion (λ s. Contains keys s.key) ss) (first : ColumnKey)
        (has_first : Contains (keys_of ss) first) (among_first : Contains keys first) (least : rank first ≡ 0) where
      -- a column without a slot is not the first
      not_first : (k : ColumnKey) → Contains keys k → slots_at k ss ≡ [] → (rank k == 0) ≡ false
      not_first k has none = by (rank k == 0) refl
        where
          by : (b : Bool) → (rank k == 0) ≡ b → b ≡ false
          by false e = refl
          by true e =
              let same = sym (rank_same keys k first has among_first) ∙ ap (λ r. rank k == r) least ∙ e in
              let some = some_at (λ s. s.key) k ss (subst (Contains (keys_of ss)) (is_same first k same) has_first) in
              let none = ap length none in absurd (omega (arith, none, some))

      key_said : (k : ColumnKey) → Contains keys k
          → columns_heard (rank_column all (rank k) ∷ []) ≡ columns_heard (flat_map (slot_said ties) (slots_at k ss))
      key_said k has = by (one_at (λ s. s.key) k ss own)
        where
          by : AtMostOne (λ s. s.key) k (slots_at k ss)
              → columns_heard (rank_column all (rank k) ∷ [])
              ≡ columns_heard (flat_map (slot_said ties) (slots_at k ss))
          by (inl e) =
              untold (rank k == 0) (notes_at all (rank k)) (tie_ends_at all (rank k)) (not_first k has e)
              (notes_here k has ∙ ap (λ t. drawn_notes (column_marks place (t ++ []))) e)
              ∙ ap (λ t. columns_heard (flat_map (slot_said ties) t)) (sym e)
          by (inr (s, same, e)) =
              known_same (rank k == 0) (rank s.key == 0) (notes_at all (rank k)) (drawn_notes s.drawn)
              (tie_ends_at all (rank k)) (ties (rank s.key)) [] [] (ap (λ l. rank l == 0) (sym same))
              (notes_here k has ∙ quiet (slots_at k ss) s e)
              (tied (rank k) ∙ ap (λ l. ties (rank l)) (sym same)) refl
              ∙ ap (λ t. columns_heard (flat_map (slot_said ties) t)) (sym e)

      keys_said : (ks : List ColumnKey) → ((k : ColumnKey) → Contains ks k → Contains keys k)
          → columns_heard (map (λ k. rank_column all (rank k)) ks)
          ≡ columns_heard (flat_map (λ k. flat_map (slot_said ties) (slots_at k ss)) ks)
      keys_said [] among = refl
      keys_said (k ∷ ks) among =
          let more = map (λ l. rank_column all (rank l)) ks in
          let here = flat_map (slot_said ties) (slots_at k ss) in
          let there = flat_map (λ l. flat_map (slot_said ties) (slots_at l ss)) ks in
          known_join (rank_column all (rank k) ∷ []) more
          ∙ ap (λ t. t ++ columns_heard more) (key_said k (among k (0, omega arith, refl)))
          ∙ ap (λ t. columns_heard here ++ t)
          (keys_said ks (λ l (i, inside, is). among l (suc i, omega (arith, inside), is)))
          ∙ sym (known_join here there)

      by_keys : (r : ℕ) (ks : List ColumnKey)
          → ((i : ℕ) (d : ColumnKey) → i < length ks → rank (slice_index_or ks i d) ≡ r + i)
          → columns_after all r (length ks) ≡ map (λ k. rank_column all (rank k)) ks
      by_keys r [] at_place = refl
      by_keys r (k ∷ ks) at_place =
          let here = at_place 0 k (omega arith) in
          let same : r ≡ rank k = omega (arith, here) in
          ap (λ q. rank_column all q ∷ columns_after all (suc r) (length ks)) same
          ∙ ap (λ t. rank_column all (rank k) ∷ t)
          (by_keys (suc r) ks
          (λ i d inside. let next = at_place (suc i) d (omega (arith, inside)) in omega (arith, next)))

      pub ranks_said : columns_heard (ranked_columns (length keys) all) ≡ columns_heard (flat_map (slot_said ties) ss)
      ranks_said =
          ap columns_heard
          (by_keys 0 keys (λ i d inside. let here = rank_at_place keys i d rise inside in omega (arith, here)))
          ∙ keys_said keys (λ k has. has)
          ∙ ap columns_heard (sym (in_order (λ s. s.key) (slot_said ties) keys ss rise own inside))

-- a head, and slots after it
pub columns_said : (keys : List ColumnKey) (place : TextPlace) (h : Slot) (ss : List Slot) (bs : List Bridge)
    → Rises keys → Rises (keys_of (h ∷ ss)) → AllByRecursion (λ s. Contains keys s.key) (h ∷ ss)
    → key_rank keys h.key ≡ 0
    → columns_heard
    (ranked_columns (length keys) (flat_map (column_at keys place ((h ∷ ss) ∷ [])) keys ++ map (bridge_at keys) bs))
    ≡ columns_heard
    (column true (drawn_notes h.drawn) (tie_ends_at (map (bridge_at keys) bs) 0)
    ∷ map (slot_column keys (tie_ends_at (map (bridge_at keys) bs))) ss)
columns_said keys place h ss bs rise own inside least =
    let ties = tie_ends_at (map (bridge_at keys) bs) in
    ranks_said keys rise place (h ∷ ss) bs own inside h.key (0, omega arith, refl) inside.0 least
    ∙ ap (λ t. columns_heard (slot_said keys ties h ++ t)) (after_head keys ties h.key ss inside.0 own.0)
    ∙ ap (λ r. columns_heard (column (r == 0) (drawn_notes h.drawn) (ties r) ∷ map (slot_column keys ties) ss)) least

-- the head of a system is its first column
pub head_least : (lengths : List ℕ) (a b : ℕ) (keys : List ColumnKey)
    → All (IsInSystem lengths a b) keys → key_rank keys (head_key a) ≡ 0
head_least lengths a b [] places = refl
head_least lengths a b (k ∷ keys) places =
    let first = not_before a k (All-head (IsInSystem lengths a b) k keys places).from in
    let rest = head_least lengths a b keys (All-tail (IsInSystem lengths a b) k keys places) in
    grind (arith, first, rest)
