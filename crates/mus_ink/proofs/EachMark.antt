-- One walk over the marks of each part: what holds of a glyph in the main lane, of a loose glyph, of a stem, and of
-- the marks of a good meter holds of all marks of the parts.
use Rattle.std.proofs.Common.{ℕ, zero, suc, ℤ, ◌+◌, ◌-◌, max, Bool, true, false, ◌==◌, ◌&&◌, if◌then◌else◌, List, []}
use Rattle.std.proofs.Common.{◌∷◌, ◌++◌, Option, Some, None}
use Rattle.std.specs.List.{AllByRecursion}
use Rattle.std.specs.Prelude.{IfSome}
use Rattle.mus_units.specs.declared.glyph.Glyph.{Glyph}
use Rattle.mus_units.specs.declared.key.Key.{Key}
use Rattle.mus_units.specs.declared.key.Meter.{Meter}
use Rattle.mus_units.specs.declared.key.Sign.{Sign}
use Rattle.mus_units.specs.declared.note.Bar.{Bar}
use Rattle.mus_units.specs.declared.note.Deco.{Deco}
use Rattle.mus_units.specs.declared.note.Head.{Head}
use Rattle.mus_units.specs.declared.pitch.Alter.{Alter}
use Rattle.mus_units.specs.declared.pitch.Clef.{Clef}
use Rattle.mus_units.specs.declared.value.Base.{Base}
use Rattle.mus_units.specs.Good.{IsGoodMeter}
use Rattle.mus_score.specs.declared.score.Changes.{Changes}
use Rattle.mus_score.specs.declared.score.Event.{Event}
use Rattle.mus_score.specs.declared.score.Look.{Look}
use Rattle.mus_stems.proofs.RunLaws.{all_append}
use Rattle.mus_stems.specs.declared.dots.Spot.{Spot}
use Rattle.mus_stems.specs.declared.plans.StemPlan.{StemPlan}
use Rattle.mus_ink.specs.declared.graces.Group.{Group}
use Rattle.mus_ink.specs.Bars.{bar_marks, glyph_if}
use Rattle.mus_ink.specs.Changes.{after_clef, change_marks, clef_if, head_marks, key_if, new_entries}
use Rattle.mus_ink.specs.Decos.{after_deco, body_marks, deco_mark, deco_marks, note_marks}
use Rattle.mus_ink.specs.Distances.{entry_gap, signature_side}
use Rattle.mus_ink.specs.Kinds.{deco_glyph, head_glyph}
use Rattle.mus_ink.specs.Graces.{at_end, grace_body, grace_head_ink, grace_marks}
use Rattle.mus_ink.specs.Notes.{dot_marks, heads_marks, ledger_marks, note_heads, sign_mark, sign_marks}
use Rattle.mus_ink.specs.Rests.{rest_dots, rest_glyphs, rest_marks, short_rests}
use Rattle.mus_ink.specs.Signatures.{entry_mark, entry_marks, meter_if, meter_marks}
use Rattle.mus_ink.specs.Stems.{flag_marks, flags_or_stubs, stem_if, stem_marks, stub_marks}
use Rattle.mus_ink.specs.Drawing.{glyph, loose_glyph, stem}
use Rattle.mus_laid.specs.declared.drawn.LaneInk.{LaneInk}

-- what each kind of mark needs
pub record OfMarks (P : LaneInk → Type 0) : Type 0 where
  pub of_glyph : (g : Glyph) (dx dy : ℤ) → P (glyph g dx dy)
  pub of_loose : (g : Glyph) (dx dy : ℤ) → P (loose_glyph g dx dy)
  pub of_stem : (dx from to : ℤ) → P (stem dx from to)
  pub of_meter : (dx : ℕ) (m : Meter) → IsGoodMeter m → AllByRecursion P (meter_marks dx m)

module _ (P : LaneInk → Type 0) (w : OfMarks P) where
  two : (xs ys : List LaneInk) → AllByRecursion P xs → AllByRecursion P ys → AllByRecursion P (xs ++ ys)
  two = all_append P

  either : (b : Bool) (xs ys : List LaneInk)
      → AllByRecursion P xs → AllByRecursion P ys → AllByRecursion P (if b then xs else ys)
  either true xs ys p q = p
  either false xs ys p q = q

  -- ---- heads of staves and changes
  entries : (c : Clef) (ends : Bool) (first k : ℕ) (ss : List Sign) → AllByRecursion P (entry_marks c ends first k ss)
  unfolding entry_mark
  entries c ends first k [] = tt
  entries c ends first k (s ∷ ss) = (w.of_glyph _ _ _, entries c ends first (k + 1) ss)

  meter : (dx : ℕ) (m : Option Meter) → IfSome m IsGoodMeter → AllByRecursion P (meter_if dx m)
  meter dx None good = tt
  meter dx (Some m) good = w.of_meter dx m good

  pub head : (c : Clef) (ss : List Sign) (m : Option Meter)
      → IfSome m IsGoodMeter → AllByRecursion P (head_marks c ss m)
  unfolding head_marks
  head c ss m good = (
    w.of_glyph _ _ _,
    two (entry_marks c false signature_side 0 ss) _ (entries c false signature_side 0 ss) (meter _ m good),
  )

  clef : (c : Option Clef) → AllByRecursion P (clef_if c)
  clef None = tt
  clef (Some c) = (w.of_glyph _ _ _, tt)

  new_of : (c : Clef) (first : ℕ) (old ss : List Sign) → AllByRecursion P (new_entries c first old ss)
  new_of c first old [] = entries c true first 0 old
  new_of c first old (s ∷ ss) = entries c false first 0 (s ∷ ss)

  key : (c : Clef) (first : ℕ) (old : List Sign) (k : Option Key) → AllByRecursion P (key_if c first old k)
  key c first old None = tt
  key c first old (Some k) = new_of c first old k.signs

  pub change : (c : Clef) (old : List Sign) (ch : Changes)
      → IfSome ch.meter IsGoodMeter → AllByRecursion P (change_marks c old ch)
  unfolding change_marks
  change c old ch good =
      two (clef_if ch.clef ++ key_if c (after_clef ch.clef + entry_gap) old ch.key) _
      (two (clef_if ch.clef) _ (clef ch.clef) (key c (after_clef ch.clef + entry_gap) old ch.key))
      (meter _ ch.meter good)

  -- ---- bars
  one_glyph : (b : Bool) (g : Glyph) → AllByRecursion P (glyph_if b g)
  one_glyph true g = (w.of_glyph _ _ _, tt)
  one_glyph false g = tt

  pub bar : (b : Bar) → AllByRecursion P (bar_marks b)
  unfolding bar_marks
  bar b = (w.of_glyph _ _ _, two (glyph_if b.end _) _ (one_glyph b.end _) (one_glyph b.start _))

  -- ---- heads
  sign : (dy : ℤ) (a : Option Alter) (dx : Option ℤ) → AllByRecursion P (sign_mark dy a dx)
  sign dy (Some a) (Some dx) = (w.of_glyph _ _ _, tt)
  sign dy (Some a) None = tt
  sign dy None dx = tt

  signs : (c : Clef) (hs : List Head) (dxs : List (Option ℤ)) → AllByRecursion P (sign_marks c hs dxs)
  signs c [] dxs = tt
  signs c (h ∷ hs) [] = tt
  signs c (h ∷ hs) (dx ∷ dxs) = two (sign_mark _ h.sign dx) _ (sign _ h.sign dx) (signs c hs dxs)

  ledgers : (dys : List ℤ) → AllByRecursion P (ledger_marks dys)
  ledgers [] = tt
  ledgers (dy ∷ dys) = (w.of_glyph _ _ _, ledgers dys)

  heads : (c : Clef) (g : Glyph) (hs : List Head) (dxs : List ℤ) → AllByRecursion P (note_heads c g hs dxs)
  heads c g [] dxs = tt
  heads c g (h ∷ hs) [] = tt
  heads c g (h ∷ hs) (dx ∷ dxs) = (w.of_glyph _ _ _, heads c g hs dxs)

  dots : (ss : List Spot) → AllByRecursion P (dot_marks ss)
  dots [] = tt
  dots (s ∷ ss) = (w.of_glyph _ _ _, dots ss)

  all_heads : (c : Clef) (base : Base) (hs : List Head) (p : StemPlan) → AllByRecursion P (heads_marks c base hs p)
  unfolding heads_marks
  all_heads c base hs p =
      two (sign_marks c hs p.signs ++ ledger_marks p.ledgers ++ note_heads c (head_glyph base) hs p.shifts) _
      (two (sign_marks c hs p.signs ++ ledger_marks p.ledgers) _
      (two (sign_marks c hs p.signs) _ (signs c hs p.signs) (ledgers p.ledgers))
      (heads c (head_glyph base) hs p.shifts))
      (dots p.dots)

  -- ---- stems
  one_stem : (has up : Bool) (from to : ℤ) → AllByRecursion P (stem_if has up from to)
  one_stem true up from to = (w.of_stem _ _ _, tt)
  one_stem false up from to = tt

  flags : (up : Bool) (to : ℤ) (k n : ℕ) → AllByRecursion P (flag_marks up to k n)
  flags up to k zero = tt
  flags up to k (suc n) = (w.of_glyph _ _ _, flags up to (k + 1) n)

  stubs : (first up : Bool) (to : ℤ) (k n : ℕ) → AllByRecursion P (stub_marks first up to k n)
  stubs first up to k zero = tt
  stubs first up to k (suc n) = (w.of_loose _ _ _, stubs first up to (k + 1) n)

  ends : (p : StemPlan) (before after : ℕ) → AllByRecursion P (flags_or_stubs p before after)
  unfolding flags_or_stubs
  ends p before after =
      either ((before == 0) && (after == 0)) (flag_marks p.up p.to 0 p.flags)
      (stub_marks (before == 0) p.up p.to (max before after) (p.flags - max before after))
      (flags p.up p.to 0 p.flags) (stubs (before == 0) p.up p.to (max before after) (p.flags - max before after))

  stems : (p : StemPlan) (before after : ℕ) → AllByRecursion P (stem_marks p before after)
  unfolding stem_marks
  stems p before after = two (stem_if p.has p.up p.from p.to) _ (one_stem p.has p.up p.from p.to) (ends p before after)

  -- ---- rests
  shorts : (g : Glyph) (top : ℤ) (k n : ℕ) → AllByRecursion P (short_rests g top k n)
  shorts g top k zero = tt
  shorts g top k (suc n) = (w.of_glyph _ _ _, shorts g top (k + 1) n)

  rest_by : (raise : ℤ) (base : Base) (n : ℕ) → AllByRecursion P (rest_glyphs raise base n)
  rest_by raise Base.Breve n = (w.of_glyph _ _ _, tt)
  rest_by raise Base.Whole n = (w.of_glyph _ _ _, tt)
  rest_by raise Base.Half n = (w.of_glyph _ _ _, tt)
  rest_by raise Base.Quarter n = (w.of_glyph _ _ _, tt)
  rest_by raise Base.Eighth n = shorts _ _ 0 n
  rest_by raise Base.N16 n = shorts _ _ 0 n
  rest_by raise Base.N32 n = shorts _ _ 0 n
  rest_by raise Base.N64 n = shorts _ _ 0 n

  rest_dotted : (raise : ℤ) (k n : ℕ) → AllByRecursion P (rest_dots raise k n)
  rest_dotted raise k zero = tt
  rest_dotted raise k (suc n) = (w.of_glyph _ _ _, rest_dotted raise (k + 1) n)

  rest : (raise : ℤ) (look : Look) (base : Base) (n flags : ℕ) → AllByRecursion P (rest_marks raise look base n flags)
  rest raise Look.Unseen base n flags = (w.of_glyph _ _ _, tt)
  rest raise Look.Whole base n flags = (w.of_glyph _ _ _, tt)
  rest raise Look.Seen base n flags =
      two (rest_glyphs raise base flags) _ (rest_by raise base flags) (rest_dotted raise 0 n)

  -- ---- events
  deco : (dy : ℤ) (g : Option Glyph) → AllByRecursion P (deco_mark dy g)
  deco dy None = tt
  deco dy (Some g) = (w.of_glyph _ _ _, tt)

  all_decos : (dy : ℤ) (ds : List Deco) → AllByRecursion P (deco_marks dy ds)
  all_decos dy [] = tt
  all_decos dy (d ∷ ds) =
      two (deco_mark dy (deco_glyph d)) _ (deco dy (deco_glyph d)) (all_decos (after_deco dy (deco_glyph d)) ds)

  body : (c : Clef) (raise : ℤ) (hs : List Head) (e : Event) (p : StemPlan) (before after : ℕ)
      → AllByRecursion P (body_marks c raise hs e p before after)
  body c raise [] e p before after = rest raise e.look e.value.base e.value.dots p.flags
  body c raise (h ∷ hs) e p before after =
      two (heads_marks c e.value.base (h ∷ hs) p) _ (all_heads c e.value.base (h ∷ hs) p) (stems p before after)

  pub note : (c : Clef) (raise : ℤ) (e : Event) (p : StemPlan) (before after : ℕ)
      → AllByRecursion P (note_marks c raise e p before after)
  unfolding note_marks
  note c raise e p before after =
      two (body_marks c raise e.heads e p before after) _ (body c raise e.heads e p before after) (all_decos _ e.decos)

  -- ---- graces
  small_heads : (c : Clef) (hs : List Head) → AllByRecursion P (grace_head_ink c hs)
  small_heads c [] = tt
  small_heads c (h ∷ hs) = (w.of_glyph _ _ _, small_heads c hs)

  ended : (b : Bool) (g : Glyph) (end : ℤ) → AllByRecursion P (at_end b g end)
  ended true g end = (w.of_glyph _ _ _, tt)
  ended false g end = tt

  small_body : (c : Clef) (hs : List Head) → AllByRecursion P (grace_body c hs)
  unfolding grace_body
  small_body c hs =
      two (sign_marks c hs _ ++ ledger_marks _) _ (two (sign_marks c hs _) _ (signs c hs _) (ledgers _))
      (small_heads c hs)

  pub grace : (c : Clef) (group : Group) (first : Bool) (g : Event) → AllByRecursion P (grace_marks c group first g)
  unfolding grace_marks
  grace c group first g =
      two _ _ (two (grace_body c g.heads) _ (small_body c g.heads) (w.of_stem _ _ _, tt))
      (two _ _ (ended group.alone _ group.end) (ended _ _ group.end))
