-- A tune has one outcome, since each stage of its setting has one result: its header, its score, the score that is
-- drawn by the plan of its staves and moved, its layout, and the height of its blocks.
use Rattle.std.proofs.Common.{◌≡◌, ◌∙◌, refl, sym, ap, subst, ℕ, ℤ, List, [], ◌∷◌, Option, Some, None, Bool}
use Rattle.std.proofs.Common.{Result, Ok, Err, inl, inr, IfOk, IfSome}
use Rattle.abc_lines.specs.declared.book.TuneText.{TuneText}
use Rattle.abc_lines.specs.declared.fault.Fault.{Fault}
use Rattle.abc_lines.specs.declared.fault.FaultKind.{FaultKind}
use Rattle.abc_lines.specs.declared.fault.TuneError.{TuneError}
use Rattle.abc_lines.specs.Books.{book_of}
use Rattle.abc_fields.specs.declared.defaults.Defaults.{Defaults}
use Rattle.abc_fields.specs.declared.header.Header.{Header}
use Rattle.abc_fields.specs.Good.{IsGoodDefaults}
use Rattle.abc_fields.specs.Headers.{header_fault, IsHeaderResult, HasGoodValues, IsGoodHeader}
use Rattle.abc_fields.specs.Papers.{body_height, body_width}
use Rattle.abc_fields.proofs.OneHeader.{one_header}
use Rattle.abc_score.specs.Build.{IsFaultOf, IsScoreOf, IsScoreResult}
use Rattle.abc_score.proofs.OneScore.{one_score}
use Rattle.mus_score.specs.declared.score.Score.{Score}
use Rattle.mus_score.specs.GoodScore.{IsGoodScore}
use Rattle.mus_transpose.specs.Moved.{IsMoved}
use Rattle.law_transposition.proofs.Sounding.{moved_sounds_higher}
use Rattle.lay_pages.specs.declared.titles.TitleBlock.{TitleBlock}
use Rattle.lay_pages.specs.Filling.{first_tall}
use Rattle.lay_pages.specs.Titles.{title_block_of}
use Rattle.lay_tune.specs.declared.layout.Layout.{Layout}
use Rattle.lay_tune.specs.Layout.{IsLayout}
use Rattle.lay_tune.proofs.Called.{has_system, one_system}
use Rattle.set_tune.specs.Terms.{Manner, Terms}
use Rattle.set_tune.specs.declared.tune.SetTune.{SetTune}
use Rattle.set_tune.specs.Blocks.{blocks_of}
use Rattle.set_tune.specs.Setting.{HasHeader, HasScore, IsScoreDrawn, IsLaid, IsLaidTune, IsLayoutRefusal}
use Rattle.set_tune.specs.Setting.{IsMovedRefusal, IsTallRefusal, layout_fault, layout_of, of_header, of_score}
use Rattle.set_tune.specs.Setting.{of_share, of_move, no_way, too_tall, IsFaultOfTune, IsWritten}
use Rattle.set_tune.proofs.Apart.{staves_apart}
use Rattle.set_tune.proofs.Laid.{heard_moved}
use Rattle.set_book.specs.{declared.outcome.Outcome.Outcome, Outcomes.{AreOutcomes, IsOutcome, IsResult}}
use Rattle.law_one_outcome.specs.Outcomes.{EveryTuneHasOneOutcome, book_terms}
use Rattle.law_one_outcome.specs.Said.{IsReadAsSaid}
use Rattle.law_one_outcome.specs.Stages.{EachStageHasOneResult, IsLayoutResult}
use Rattle.law_one_outcome.proofs.Defaults.{defaults_good}
use Rattle.law_one_outcome.proofs.Draws.{drawn_once}
use Rattle.law_one_outcome.proofs.Layouts.{laid_once}
use Rattle.law_one_outcome.proofs.Moves.{moved_once}
use Rattle.law_one_outcome.proofs.Stages.{IsOnce, Then, goes_on, stops, then_once}

-- ---- the header
abbrev Reads : TuneText → Defaults → Result Header Fault → Type 0
Reads tune defaults (Ok header) = HasHeader tune defaults header
Reads tune defaults (Err fault) = header_fault tune ≡ Some fault

header_result : (tune : TuneText) (defaults : Defaults) (r : Result Header Fault)
    → Reads tune defaults r → IsHeaderResult tune defaults r
header_result tune defaults (Ok h) a = (a.value, a.clear)
header_result tune defaults (Err f) a = a

reads_once : (tune : TuneText) (defaults : Defaults) → IsOnce Header (Reads tune defaults)
reads_once tune defaults r q a b =
    one_header tune defaults r (header_result tune defaults r a) q (header_result tune defaults q b)

-- ---- the written score, or the fault of the body or of its score
abbrev Writes : TuneText → Bool → Header → Result Score Fault → Type 0
Writes tune flow header (Ok score) = IsScoreOf header tune flow score × IsGoodScore score
Writes tune flow header (Err fault) = IsFaultOf header tune (TuneError.Fault fault)

score_result : (tune : TuneText) (flow : Bool) (header : Header) (r : Result Score Fault)
    → Writes tune flow header r → IsScoreResult header tune flow r
score_result tune flow header (Ok s) a = a.0
score_result tune flow header (Err f) a = a

writes_once : (tune : TuneText) (flow : Bool) (header : Header) → IsOnce Score (Writes tune flow header)
writes_once tune flow header r q a b =
    one_score header tune flow r (score_result tune flow header r a) q (score_result tune flow header q b)

-- ---- the drawn score, moved
abbrev headed : Header → Score → Header × Score
headed header score = (header, score)

abbrev Moves : TuneText → ℤ → Header → Score → Result (Header × Score) Fault → Type 0
Moves tune by header drawn (Ok p) = (p ≡ headed header p.1) × IsMoved drawn header.key by (Some p.1)
Moves tune by header drawn (Err fault) =
    IsMoved drawn header.key by None × (fault ≡ layout_fault tune FaultKind.BadMove)

moves_once : (tune : TuneText) (by : ℤ) (h : Header) (d : Score) → IsOnce (Header × Score) (Moves tune by h d)
moves_once tune by h d (Ok p) (Ok q) a b =
    let same = moved_once d h.key by (Some p.1) (Some q.1) a.1 b.1 in
    let score : p.1 ≡ q.1 = cc in
    ap Ok (a.0 ∙ ap (headed h) score ∙ sym b.0)
moves_once tune by h d (Ok p) (Err g) a b = let clash = moved_once d h.key by (Some p.1) None a.1 b.0 in cc
moves_once tune by h d (Err f) (Ok q) a b = let clash = moved_once d h.key by None (Some q.1) a.0 b.1 in cc
moves_once tune by h d (Err f) (Err g) a b = ap Err (a.1 ∙ sym b.1)

-- the result of a tune up to its score
abbrev Scores : TuneText → Defaults → Manner → Result (Header × Score) Fault → Type 0
Scores tune defaults manner =
    Then Header (Header × Score) (Reads tune defaults) (λ h.
    Then Score (Header × Score) (Writes tune manner.flow h)
    (λ w. Then Score (Header × Score) (IsScoreDrawn h.staves w) (λ d. Moves tune manner.by h d)))

scores_once : (tune : TuneText) (defaults : Defaults) (manner : Manner)
    → IsOnce (Header × Score) (Scores tune defaults manner)
scores_once tune defaults manner =
    then_once _ _ _ _ (reads_once tune defaults) (λ h read.
    then_once _ _ _ _ (writes_once tune manner.flow h)
    (λ w good. then_once _ _ _ _ (drawn_once h.staves w good.1) (λ d draws. moves_once tune manner.by h d)))

scored : (tune : TuneText) (defaults : Defaults) (manner : Manner) (h : Header) (s : Score)
    → HasScore tune defaults manner h s → Scores tune defaults manner (Ok (h, s))
scored tune defaults manner h s a =
    goes_on h _ a.is.read (goes_on a.written _ (a.is.value, a.is.good) (goes_on a.drawn _ a.draws (refl, a.moved)))

refused : (tune : TuneText) (defaults : Defaults) (manner : Manner) (f : Fault)
    → IsMovedRefusal tune defaults manner (TuneError.Fault f) → Scores tune defaults manner (Err f)
refused tune defaults manner f (inl (inl fault)) = stops f fault
refused tune defaults manner f (inl (inr (h, read, fault))) = goes_on h (Err f) read (stops f fault)
refused tune defaults manner f (inr (inl c)) =
    goes_on c.header (Err f) c.is.read (goes_on c.written (Err f) (c.is.value, c.is.good) (stops f c.draws))
refused tune defaults manner f (inr (inr (c, at))) =
    goes_on c.header (Err f) c.is.read
    (goes_on c.written (Err f) (c.is.value, c.is.good) (goes_on c.drawn (Err f) c.draws (c.moved, at)))

one_scored : (tune : TuneText) (defaults : Defaults) (manner : Manner) (p q : Header × Score)
    → Scores tune defaults manner (Ok p) → Scores tune defaults manner (Ok q) → p ≡ q
one_scored tune defaults manner p q a b = let same = scores_once tune defaults manner (Ok p) (Ok q) a b in cc

pub one_music : (tune : TuneText) (defaults : Defaults) (manner : Manner) (h k : Header) (s t : Score)
    → HasScore tune defaults manner h s → HasScore tune defaults manner k t → s ≡ t
one_music tune defaults manner h k s t a b =
    ap (λ (p : Header × Score). p.1)
    (one_scored tune defaults manner (h, s) (k, t) (scored tune defaults manner h s a)
    (scored tune defaults manner k t b))

pub no_refusal : (tune : TuneText) (defaults : Defaults) (manner : Manner) (h : Header) (s : Score) (f : Fault)
    → HasScore tune defaults manner h s → IsMovedRefusal tune defaults manner (TuneError.Fault f) → ⊥
no_refusal tune defaults manner h s f a b =
    let clash = scores_once tune defaults manner (Ok (headed h s)) (Err f) (scored tune defaults manner h s a)
    (refused tune defaults manner f b) in
    cc

-- ---- its layout
abbrev Lays : TuneText → ℕ → Header × Score → Result SetTune Fault → Type 0
Lays tune width p (Ok t) = IsLaid width p.0 p.1 t
Lays tune width p (Err fault) = IsLayoutRefusal tune width p.1 (TuneError.Fault fault)

abbrev tune_of : Header → Score → TitleBlock → Layout → SetTune
tune_of header score title l = record {
  header = header;
  score = score;
  title = title;
  breaking = l.breaking;
  systems = l.systems;
  placed = l.placed;
  spans = l.spans;
  heights = l.heights;
}

laid_under : (width : ℕ) (p : Header × Score) (t : SetTune) → IsLaid width p.0 p.1 t → IsLayout p.1 width (layout_of t)
laid_under width p t a = subst (λ s. IsLayout s width (layout_of t)) a.music a.layout

lays_once : (tune : TuneText) (width : ℕ) (p : Header × Score) → IsOnce SetTune (Lays tune width p)
lays_once tune width p (Ok t) (Ok u) a b =
    let same = laid_once p.1 width (Ok (layout_of t)) (Ok (layout_of u)) (laid_under width p t a)
    (laid_under width p u b) in
    let layout : layout_of t ≡ layout_of u = cc in
    let head : t.header ≡ u.header = a.head ∙ sym b.head in
    let music : t.score ≡ u.score = a.music ∙ sym b.music in
    let title : t.title ≡ u.title = a.title ∙ sym b.title in
    let made : tune_of t.header t.score t.title (layout_of t) ≡ tune_of u.header u.score u.title (layout_of u) = cc in
    ap Ok made
lays_once tune width p (Ok t) (Err g) a (i, xs, way, is) =
    let clash = laid_once p.1 width (Ok (layout_of t)) (Err i) (laid_under width p t a) (xs, way) in cc
lays_once tune width p (Err f) (Ok u) (i, xs, way, is) b =
    let clash = laid_once p.1 width (Err i) (Ok (layout_of u)) (xs, way) (laid_under width p u b) in cc
lays_once tune width p (Err f) (Err g) (i, xs, way, is) (j, ys, other, at) =
    let same = laid_once p.1 width (Err i) (Err j) (xs, way) (ys, other) in
    let bar : i ≡ j = cc in
    ap Err (is ∙ ap (λ n. layout_fault tune (FaultKind.NoWay n)) bar ∙ sym at)

-- ---- its height
abbrev Fits : TuneText → ℕ → SetTune → Result SetTune Fault → Type 0
Fits tune high t (Ok u) = (u ≡ t) × (first_tall high (blocks_of t.title t.heights) ≡ None)
Fits tune high t (Err fault) = IsTallRefusal tune high t (TuneError.Fault fault)

fits_once : (tune : TuneText) (high : ℕ) (t : SetTune) → IsOnce SetTune (Fits tune high t)
fits_once tune high t (Ok u) (Ok v) a b = ap Ok (a.0 ∙ sym b.0)
fits_once tune high t (Ok u) (Err g) (is, fits) (i, tall, at) = let clash = sym fits ∙ tall in cc
fits_once tune high t (Err f) (Ok v) (i, tall, is) (at, fits) = let clash = sym fits ∙ tall in cc
fits_once tune high t (Err f) (Err g) (i, tall, is) (j, more, at) =
    let same = sym tall ∙ more in
    let block : i ≡ j = cc in
    ap Err (is ∙ ap (λ n. layout_fault tune (FaultKind.TooTall n)) block ∙ sym at)

-- ---- the outcome of a tune
abbrev Comes : TuneText → Terms → Result SetTune Fault → Type 0
Comes tune terms =
    Then (Header × Score) SetTune (Scores tune terms.defaults terms.manner)
    (λ p. Then SetTune SetTune (Lays tune (body_width terms.paper) p) (λ t. Fits tune (body_height terms.paper) t))

comes_once : (tune : TuneText) (terms : Terms) → IsOnce SetTune (Comes tune terms)
comes_once tune terms =
    then_once _ _ _ _ (scores_once tune terms.defaults terms.manner) (λ p some.
    then_once _ _ _ _ (lays_once tune (body_width terms.paper) p)
    (λ t laid. fits_once tune (body_height terms.paper) t))

laid_fits : (tune : TuneText) (terms : Terms) (t : SetTune) (r : Result SetTune Fault)
    → IsLaidTune tune terms t → Fits tune (body_height terms.paper) t r → Comes tune terms r
laid_fits tune terms t r a fits =
    goes_on (t.header, t.score) r (scored tune terms.defaults terms.manner t.header t.score a.score)
    (goes_on t r (record { head = refl; music = refl; title = a.title; layout = a.layout }) fits)

comes : (tune : TuneText) (terms : Terms) (r : Result SetTune Fault) → IsResult tune terms r → Comes tune terms r
comes tune terms (Ok t) a = laid_fits tune terms t (Ok t) a.laid (refl, a.fits)
comes tune terms (Err _) (of_header f fault) = stops f (refused tune terms.defaults terms.manner f (inl (inl fault)))
comes tune terms (Err _) (of_score h f read fault) =
    stops f (refused tune terms.defaults terms.manner f (inl (inr (h, read, fault))))
comes tune terms (Err _) (of_share f c) = stops f (refused tune terms.defaults terms.manner f (inr (inl c)))
comes tune terms (Err _) (of_move c) = stops _ (refused tune terms.defaults terms.manner _ (inr (inr (c, refl))))
comes tune terms (Err _) (no_way h s i xs has way) =
    goes_on (h, s) _ (scored tune terms.defaults terms.manner h s has) (stops _ (i, xs, way, refl))
comes tune terms (Err _) (too_tall t i laid tall) = laid_fits tune terms t _ laid (i, tall, refl)

one_result : (tune : TuneText) (terms : Terms) → IsOnce SetTune (IsResult tune terms)
one_result tune terms r q a b = comes_once tune terms r q (comes tune terms r a) (comes tune terms q b)

-- ---- a book
abbrev outcome_of : ℕ → Result SetTune Fault → Outcome
outcome_of ordinal result = record { ordinal = ordinal; result = result }

outcome_once : (terms : Terms) (tune : TuneText) (o p : Outcome)
    → IsOutcome terms tune o → IsOutcome terms tune p → o ≡ p
outcome_once terms tune o p a b =
    let ordinal : o.ordinal ≡ p.ordinal = a.ordinal ∙ sym b.ordinal in
    let result = one_result tune terms o.result p.result a.result b.result in
    let made : outcome_of o.ordinal o.result ≡ outcome_of p.ordinal p.result = cc in made

-- the tunes of a book have one list of outcomes
pub outcomes_once : (terms : Terms) (tunes : List TuneText) (os ps : List Outcome)
    → AreOutcomes terms tunes os → AreOutcomes terms tunes ps → os ≡ ps
outcomes_once terms [] [] [] a b = refl
outcomes_once terms [] [] (p ∷ ps) a b = absurd b
outcomes_once terms (tune ∷ tunes) (o ∷ os) [] a b = absurd b
outcomes_once terms (tune ∷ tunes) (o ∷ os) (p ∷ ps) a b =
    let first = outcome_once terms tune o p a.0 b.0 in let others = outcomes_once terms tunes os ps a.1 b.1 in cc
outcomes_once terms tunes os ps a b = absurd a

-- ---- every tune has an outcome
module _ (stage : EachStageHasOneResult) (said : IsReadAsSaid) where
  module _ (tune : TuneText) (terms : Terms) where
    abbrev HasResult : Type 0
    HasResult = (r : Result SetTune Fault) × IsResult tune terms r

    faulty : (f : Fault) → IsFaultOfTune tune terms f → HasResult
    faulty f is = (Err f, is)

    -- a tune that is laid out is placed on pages, or a group of its blocks is too tall
    stands : (t : SetTune) → IsLaidTune tune terms t → (o : Option ℕ)
        → first_tall (body_height terms.paper) (blocks_of t.title t.heights) ≡ o
        → HasResult
    stands t is None fits = (Ok t, record { laid = is; fits = fits })
    stands t is (Some block) tall = faulty (layout_fault tune (FaultKind.TooTall block)) (too_tall t block is tall)

    abbrev title_of : Header → TitleBlock
    title_of header = title_block_of (body_width terms.paper) header.titles header.composers header.tempo

    -- a score is laid out, or has no layout
    laid : (header : Header) (score : Score) → HasScore tune terms.defaults terms.manner header score
        → (r : Result Layout ℕ) → IsLayoutResult score (body_width terms.paper) r → HasResult
    laid header score has (Ok l) layout =
        let t = tune_of header score (title_of header) l in
        stands t
        (record {
          score = has;
          title = refl;
          layout = layout;
          apart = staves_apart tune terms.defaults terms.manner header score l.systems l.heights has layout.heights;
        })
        (first_tall (body_height terms.paper) (blocks_of t.title t.heights)) refl
    laid header score has (Err reached) (spans, way) =
        faulty (layout_fault tune (FaultKind.NoWay reached)) (no_way header score reached spans has way)

    lays : (header : Header) (score : Score) → HasScore tune terms.defaults terms.manner header score → HasResult
    lays header score has =
        let one = stage.layout score (body_width terms.paper) has.good
        (heard_moved tune terms.defaults terms.manner header score has) in
        laid header score has one.0 one.1

    module _ (header : Header) (written : Score)
        (is : IsWritten tune terms.defaults terms.manner.flow header written) where
      -- the drawn score is transposed, or can't be
      moves : (drawn : Score) → IsScoreDrawn header.staves written (Ok drawn) → (o : Option Score)
          → IsMoved drawn header.key terms.manner.by o
          → IfSome o (λ s. IsGoodScore s)
          → HasResult
      moves drawn draws None moved good =
          faulty (layout_fault tune FaultKind.BadMove)
          (of_move
          (record { header = header; written = written; is = is; drawn = drawn; draws = draws; moved = moved }))
      moves drawn draws (Some score) moved good = lays header score (record {
        written = written;
        is = is;
        drawn = drawn;
        draws = draws;
        moved = moved;
        sounds = moved_sounds_higher drawn score header.key terms.manner.by moved;
        good = good;
      })

      draws : (r : Result Score Fault) → IsScoreDrawn header.staves written r → IfOk r IsGoodScore → HasResult
      draws (Err f) drawn good =
          faulty f (of_share f (record { header = header; written = written; is = is; draws = drawn }))
      draws (Ok score) drawn good =
          let m = stage.moved score header.key terms.manner.by good in moves score drawn m.0 m.1 m.3

    writes : (header : Header) → HasHeader tune terms.defaults header → HasGoodValues header → HasResult
    writes header has good = let s = stage.score header tune terms.manner.flow good in written s.0.0 s.0.1 s.1
      where
        written : (r : Result Score Fault)
            → IsScoreResult header tune terms.manner.flow r → IfOk r (λ s. IsGoodScore s) → HasResult
        written (Err f) fault fine = faulty f (of_score header f has fault)
        written (Ok s) is fine =
            let d = stage.drawn header.staves s fine in
            draws header s (record { read = has; value = is; good = fine }) d.0.0 d.0.1 d.1

    has_result : IsGoodDefaults terms.defaults → HasResult
    has_result good = let h = stage.header tune terms.defaults good in headed h.0.0 h.0.1 h.1
      where
        headed : (r : Result Header Fault)
            → IsHeaderResult tune terms.defaults r → IfOk r (λ h. IsGoodHeader tune h) → HasResult
        headed (Err f) fault fine = faulty f (of_header f fault)
        headed (Ok header) is fine = writes header (record { value = is.0; clear = is.1 }) fine.0

    has_outcome : IsGoodDefaults terms.defaults → (o : Outcome) × IsOutcome terms tune o
    has_outcome good =
        let r = has_result good in
        (record { ordinal = tune.ordinal; result = r.0 }, record { ordinal = refl; result = r.1 })

  has_outcomes : (terms : Terms) (tunes : List TuneText)
      → IsGoodDefaults terms.defaults → (os : List Outcome) × AreOutcomes terms tunes os
  has_outcomes terms [] good = ([], tt)
  has_outcomes terms (tune ∷ tunes) good =
      let first = has_outcome tune terms good in
      let others = has_outcomes terms tunes good in
      (first.0 ∷ others.0, (first.1, others.1))

  pub every_tune : EveryTuneHasOneOutcome
  every_tune = record {
    tune =
        λ tune terms good.
        let r = has_result tune terms good in (r.0, r.1, λ other is. one_result tune terms r.0 other r.1 is);
    book =
        λ text manner.
        has_outcomes (book_terms text manner) (book_of text).tunes (defaults_good (book_of text).header);
    only = outcomes_once;
    score = one_music;
    scored = no_refusal;
    system =
        λ s a b.
        let m = has_system s a b in (m.0, record { is = m.1; only = λ other is. one_system s a b other m.0 is m.1 });
    said = said;
  }
