-- The values read from the lines of a file header are those that they state: the last of each kind.
use Rattle.std.proofs.Common.{◌≡◌, refl, sym, ap, ◌∙◌, subst, ℕ, List, [], ◌∷◌, ◌++◌, true, inl, inr}
use Rattle.std.proofs.lemmas.Bool.{and_parts, both_ways, cond_both, false_from_ne_true, leb-true, le-leb}
use Rattle.std.proofs.lemmas.Option.{IfSome_then, none-some}
use Rattle.std.specs.{Prelude.{◌⊎◌, cond, not, nat_le, Option, Some, None, IfSome, unwrap_or, codes}}
use Rattle.std.specs.Option.{option_or, option_map}
use Rattle.mus_units.specs.declared.key.Meter.{Meter}
use Rattle.mus_units.specs.declared.key.Spread.{Spread}
use Rattle.abc_lines.specs.declared.book.Line.{Line}
use Rattle.abc_lines.specs.declared.book.TuneText.{TuneText}
use Rattle.abc_lines.specs.{declared.kind.LineKind.LineKind, Kinds.{kind_of, after_blanks, field_text}}
use Rattle.abc_field.specs.Directives.{breaks_of, spread_of}
use Rattle.abc_field.specs.Last.{last_of}
use Rattle.abc_field.specs.Meters.{meter_at, meter_of, unit_at, unit_of}
use Rattle.abc_field.specs.Words.{is_empty, trimmed}
use Rattle.abc_field.proofs.FieldForms.{breaks-says, breaks-read, spread-says, spread-read}
use Rattle.abc_field.proofs.MeterForms.{meter-says, meter-read, unit-says, unit-read}
use Rattle.abc_field.proofs.ReadLaws.{option_case, some_from, some_holds, some_then, nothing, byte_case}
use Rattle.abc_field.proofs.WordLaws.{following-begins}
use Rattle.abc_fields.specs.FileHeader.{StatesMeter, StatesUnit, StatesBreaks, StatesSpread, StatesStaves, StatesLength}
use Rattle.abc_fields.specs.FileHeader.{StatesScale, AreSilent}
use Rattle.abc_fields.specs.FileHeader.{IsLastOr, IsLastIfAny, AreDefaultsBy, AreStavesBy, AreStavesOf, AreStavesUpTo}
use Rattle.abc_fields.specs.FileHeader.{IsStatedPaper}
use Rattle.abc_fields.specs.FileHeader.{HasBodyRoom, IsPaperBy}
use Rattle.abc_fields.specs.declared.defaults.Defaults.{Defaults}
use Rattle.abc_fields.specs.declared.header.Header.{Header}
use Rattle.abc_fields.specs.declared.paper.Paper.{Paper}
use Rattle.abc_fields.specs.Headers.{IsHeaderBy, IsHeaderOf, first_line_number, head_lines, key_place, staves_by}
use Rattle.abc_fields.specs.Defaults.{text_if, text_of, said_by, line_meter, line_unit, line_breaks, line_of}
use Rattle.abc_fields.specs.Defaults.{line_spread, line_staves}
use Rattle.abc_fields.specs.Defaults.{default_breaks, defaults_of}
use Rattle.abc_fields.specs.DirectiveSpelling.{IsDirective}
use Rattle.abc_fields.specs.Lengths.{length_of, scale_of}
use Rattle.abc_fields.specs.Papers.{line_length, line_scale, length_in, scale_in, default_paper, stated, body_width}
use Rattle.abc_fields.specs.Papers.{body_height, is_wide_enough}
use Rattle.abc_fields.specs.Papers.{paper_of}
use Rattle.abc_fields.proofs.DirectiveForms.{Begins, kind-begins, directive-takes, directive-read, word-stays}
use Rattle.abc_fields.proofs.PaperForms.{length-writes, length-read, scale-writes, scale-read}

-- a line is read as stating a value exactly when it states it
pub record Reads {X : Type 0} (States : Line → X → Type 0) (f : Line → Option X) : Type 0 where
  pub takes : (line : Line) → IfSome (f line) (States line)
  pub reaches : (line : Line) (x : X) → States line x → f line ≡ Some x

-- The last value stated.
module _ {X : Type 0} (States : Line → X → Type 0) (f : Line → Option X) (reads : Reads States f) where
  last_more : (line : Line) (lines : List Line) (o : Option X)
      → IsLastIfAny States lines o → IsLastIfAny States (line ∷ lines) (option_or o (f line))
  last_more line lines (Some x) last =
      record {
        before = line ∷ last.before;
        line = last.line;
        after = last.after;
        cut = ap (λ ls. line ∷ ls) last.cut;
        states = last.states;
        silent = last.silent;
      }
  last_more line lines None silent =
      option_case (IsLastIfAny States (line ∷ lines)) (f line)
      (λ x e. record {
        before = [];
        line = line;
        after = lines;
        cut = refl;
        states = some_holds (States line) e (reads.takes line);
        silent = silent;
      })
      (λ none. (λ x states. none-some x (sym none ∙ reads.reaches line x states), silent))

  pub last-is : (lines : List Line) → IsLastIfAny States lines (last_of f lines)
  last-is [] = tt
  last-is (line ∷ lines) = last_more line lines (last_of f lines) (last-is lines)

  silent-unread : (lines : List Line) → AreSilent States lines → last_of f lines ≡ None
  silent-unread [] silent = refl
  silent-unread (line ∷ lines) silent =
      rw (silent-unread lines silent.1)
      (nothing (f line) (λ x e. some_holds (States line) e (reads.takes line)) silent.0)

  last-following : (before after : List Line) (line : Line) (x : X)
      → last_of f (line ∷ after) ≡ Some x → last_of f (before ++ line ∷ after) ≡ Some x
  last-following [] after line x h = h
  last-following (first ∷ before) after line x h = rw (last-following before after line x h) refl

  last-one : (lines : List Line) (o : Option X) → IsLastIfAny States lines o → o ≡ last_of f lines
  last-one lines None silent = sym (silent-unread lines silent)
  last-one lines (Some x) last =
      sym (ap (last_of f) last.cut ∙ last-following last.before last.after last.line x
      (rw (silent-unread last.after last.silent) (reads.reaches last.line x last.states)))

  pub last-or : (default : X) (lines : List Line) → IsLastOr States default lines (unwrap_or (last_of f lines) default)
  last-or default lines = either (last_of f lines) (last-is lines)
    where
      either : (o : Option X) → IsLastIfAny States lines o → IsLastOr States default lines (unwrap_or o default)
      either None silent = inr (silent, refl)
      either (Some x) last = inl last

  last-or-one : (default : X) (lines : List Line) (x : X)
      → IsLastOr States default lines x → x ≡ unwrap_or (last_of f lines) default
  last-or-one default lines x (inl last) = ap (λ o. unwrap_or o default) (last-one lines (Some x) last)
  last-or-one default lines x (inr none) = none.1 ∙ ap (λ o. unwrap_or o default) (last-one lines None none.0)

-- Directives.
length-reads : (name : List ℕ) → not (is_empty name) ≡ true → Reads (StatesLength name) (line_length name)
unfolding line_length
length-reads name some =
    record {
      takes =
          λ line.
          some_then (StatesLength name line) length_of (said_by name line.text) (directive-takes line.text name some)
          (λ text directive. IfSome_then (length_of text) (length-writes text)
          (λ _ writes. record { text = text; directive = directive; writes = writes }));
      reaches =
          λ line size states.
          rw (directive-read line.text name states.text states.directive) (length-read states.text size states.writes);
    }

scale-reads : Reads StatesScale line_scale
unfolding line_scale
scale-reads =
    let name : List ℕ = codes "scale" in
    record {
      takes =
          λ line. some_then (StatesScale line) scale_of (said_by name line.text) (directive-takes line.text name refl)
          (λ text directive. IfSome_then (scale_of text) (scale-writes text)
          (λ _ writes. record { text = text; directive = directive; writes = writes }));
      reaches =
          λ line percent states.
          rw (directive-read line.text name states.text states.directive)
          (scale-read states.text percent states.writes);
    }

breaks-reads : Reads StatesBreaks line_breaks
unfolding line_breaks
breaks-reads =
    let name : List ℕ = codes "linebreak" in
    record {
      takes =
          λ line. some_then (StatesBreaks line) breaks_of (said_by name line.text) (directive-takes line.text name refl)
          (λ text directive. some_from (breaks_of text)
          (λ breaks e. record { text = text; directive = directive; says = breaks-says text breaks e }));
      reaches =
          λ line breaks states.
          rw (directive-read line.text name states.text states.directive) (breaks-read states.text breaks states.says);
    }

spread-reads : Reads StatesSpread line_spread
unfolding line_spread
spread-reads =
    let name : List ℕ = codes "propagate-accidentals" in
    record {
      takes =
          λ line. some_then (StatesSpread line) spread_of (said_by name line.text) (directive-takes line.text name refl)
          (λ text directive. some_from (spread_of text)
          (λ spread e. record { text = text; directive = directive; says = spread-says text spread e }));
      reaches =
          λ line spread states.
          rw (directive-read line.text name states.text states.directive) (spread-read states.text spread states.says);
    }

staves-reads : Reads StatesStaves line_staves
unfolding line_staves
staves-reads =
    record {
      takes = λ line. stated (said_by (codes "score") line.text) line (directive-takes line.text (codes "score") refl);
      reaches =
          λ line staves states.
          rw (directive-read line.text (codes "score") staves.text states.directive, states.number) refl;
    }
  where
    stated : (o : Option (List ℕ)) (line : Line) → IfSome o (IsDirective line.text (codes "score"))
        → IfSome (option_map (line_of line.number) o) (StatesStaves line)
    stated None line said = tt
    stated (Some text) line said = record { directive = said; number = refl }

-- Fields.
trimmed-once : (text : List ℕ) → trimmed (after_blanks text) ≡ trimmed text
unfolding trimmed
trimmed-once text = rw (word-stays (after_blanks text) (following-begins text)) refl

-- a field's text follows its letter, a colon and any blanks
record HasText (letter : ℕ) (line text : List ℕ) : Type 0 where
  rest : List ℕ
  cut : line ≡ letter ∷ codes ":" ++ rest
  is : after_blanks rest ≡ text

letter-takes : (letter : ℕ) (line : List ℕ) → IfSome (text_of letter line) (HasText letter line)
unfolding text_of
letter-takes letter line = by_kind (kind_of line) (kind-begins line)
  where
    by_kind : (kind : LineKind) → Begins line kind → IfSome (text_if letter line kind) (HasText letter line)
    by_kind (LineKind.Field other) begins =
        byte_case (λ o. IfSome o (HasText letter line)) other letter _ _
        (λ is. record {
          rest = begins.rest;
          cut = begins.cut ∙ ap (λ b. b ∷ codes ":" ++ begins.rest) is;
          is = sym (ap field_text begins.cut);
        })
        (λ _. tt)
    by_kind _ begins = tt

meter-once : (text : List ℕ) → meter_of (after_blanks text) ≡ meter_of text
unfolding meter_of
meter-once text = ap meter_at (trimmed-once text)

unit-once : (text : List ℕ) → unit_of (after_blanks text) ≡ unit_of text
unfolding unit_of
unit-once text = ap unit_at (trimmed-once text)

meter-letter : (text : List ℕ) → text_of 77 (codes "M:" ++ text) ≡ Some (after_blanks text)
unfolding text_of
meter-letter text = refl

unit-letter : (text : List ℕ) → text_of 76 (codes "L:" ++ text) ≡ Some (after_blanks text)
unfolding text_of
unit-letter text = refl

meter-reads : Reads StatesMeter line_meter
unfolding line_meter
meter-reads =
    record {
      takes = λ line. some_then (StatesMeter line) meter_of (text_of 77 line.text) (letter-takes 77 line.text)
          (λ text has. some_from (meter_of text)
          (λ meter e.
          let read = sym (meter-once has.rest) ∙ ap meter_of has.is ∙ e in
          record { text = has.rest; field = has.cut; says = meter-says has.rest meter read }));
      reaches =
          λ line meter states.
          rw (states.field, meter-letter states.text)
          (meter-once states.text ∙ meter-read states.text meter states.says);
    }

unit-reads : Reads StatesUnit line_unit
unfolding line_unit
unit-reads =
    record {
      takes = λ line. some_then (StatesUnit line) unit_of (text_of 76 line.text) (letter-takes 76 line.text)
          (λ text has. some_from (unit_of text)
          (λ unit e.
          let read = sym (unit-once has.rest) ∙ ap unit_of has.is ∙ e in
          record { text = has.rest; field = has.cut; says = unit-says has.rest unit read }));
      reaches =
          λ line unit states.
          rw (states.field, unit-letter states.text) (unit-once states.text ∙ unit-read states.text unit states.says);
    }

-- The defaults.

-- the values read are the defaults
pub defaults-are : (lines : List Line) → AreDefaultsBy lines (defaults_of lines)
defaults-are lines =
    record {
      meter = last-or StatesMeter line_meter meter-reads Meter.Free lines;
      unit = last-is StatesUnit line_unit unit-reads lines;
      breaks = last-or StatesBreaks line_breaks breaks-reads default_breaks lines;
      spread = last-or StatesSpread line_spread spread-reads Spread.Pitch lines;
      staves = last-is StatesStaves line_staves staves-reads lines;
    }

-- and no other values are
pub defaults-one : (lines : List Line) (defaults : Defaults)
    → AreDefaultsBy lines defaults → defaults ≡ defaults_of lines
defaults-one lines defaults are =
    let meter = last-or-one StatesMeter line_meter meter-reads Meter.Free lines defaults.meter are.meter in
    let unit = last-one StatesUnit line_unit unit-reads lines defaults.unit are.unit in
    let breaks = last-or-one StatesBreaks line_breaks breaks-reads default_breaks lines defaults.breaks are.breaks in
    let spread = last-or-one StatesSpread line_spread spread-reads Spread.Pitch lines defaults.spread are.spread in
    let staves = last-one StatesStaves line_staves staves-reads lines defaults.staves are.staves in
    let same : record {
      meter = defaults.meter;
      unit = defaults.unit;
      breaks = defaults.breaks;
      spread = defaults.spread;
      staves = defaults.staves;
    }
    ≡ defaults_of lines = rw (meter, unit, breaks, spread, staves) refl in
    same

-- The staves of a tune.
staves-by : (lines : List Line) (first : ℕ) (other : Option Line)
    → AreStavesBy lines first other (staves_by (last_of line_staves lines) other first)
staves-by lines first other = either (last_of line_staves lines) (last-is StatesStaves line_staves staves-reads lines)
  where
    either : (own : Option Line)
        → IsLastIfAny StatesStaves lines own → AreStavesBy lines first other (staves_by own other first)
    either None silent = inr (silent, refl)
    either (Some own) last = inl (own, last, refl)

staves_up_to : (tune : TuneText) (defaults : Defaults) (header : Header) (place : Option ℕ)
    → IsHeaderBy tune defaults header place
    → AreStavesUpTo tune defaults.staves place header.staves
staves_up_to tune defaults header None h = h
staves_up_to tune defaults header (Some place) h =
    let lines : List Line = head_lines tune place in
    subst (AreStavesBy lines (first_line_number tune.lines) defaults.staves) (sym (ap (λ (r : Header). r.staves) h))
    (staves-by lines (first_line_number tune.lines) defaults.staves)

pub header_staves : (tune : TuneText) (defaults : Defaults) (header : Header) → IsHeaderOf tune defaults header
    → AreStavesOf tune defaults header.staves
unfolding IsHeaderOf
header_staves tune defaults header h = staves_up_to tune defaults header (key_place tune.lines) h

-- The paper.
length-or : (name : List ℕ) (default : ℕ) (lines : List Line) → not (is_empty name) ≡ true
    → IsLastOr (StatesLength name) default lines (length_in name default lines)
unfolding length_in
length-or name default lines some =
    last-or (StatesLength name) (line_length name) (length-reads name some) default lines

length-one : (name : List ℕ) (default : ℕ) (lines : List Line) (size : ℕ) → not (is_empty name) ≡ true
    → IsLastOr (StatesLength name) default lines size → size ≡ length_in name default lines
unfolding length_in
length-one name default lines size some last =
    last-or-one (StatesLength name) (line_length name) (length-reads name some) default lines size last

stated-is : (lines : List Line) → IsStatedPaper lines (stated lines)
unfolding scale_in
stated-is lines =
    record {
      wide = length-or (codes "pagewidth") 59500 lines refl;
      high = length-or (codes "pageheight") 84200 lines refl;
      left = length-or (codes "leftmargin") 5100 lines refl;
      right = length-or (codes "rightmargin") 5100 lines refl;
      top = length-or (codes "topmargin") 2800 lines refl;
      bottom = length-or (codes "botmargin") 2800 lines refl;
      scale = last-or StatesScale line_scale scale-reads 100 lines;
    }

stated-one : (lines : List Line) (p : Paper) → IsStatedPaper lines p → p ≡ stated lines
unfolding scale_in
stated-one lines p is =
    let wide = length-one (codes "pagewidth") 59500 lines p.wide refl is.wide in
    let high = length-one (codes "pageheight") 84200 lines p.high refl is.high in
    let left = length-one (codes "leftmargin") 5100 lines p.left refl is.left in
    let right = length-one (codes "rightmargin") 5100 lines p.right refl is.right in
    let top = length-one (codes "topmargin") 2800 lines p.top refl is.top in
    let bottom = length-one (codes "botmargin") 2800 lines p.bottom refl is.bottom in
    let scale = last-or-one StatesScale line_scale scale-reads 100 lines p.scale is.scale in
    let same : record {
      wide = p.wide;
      high = p.high;
      left = p.left;
      right = p.right;
      top = p.top;
      bottom = p.bottom;
      scale = p.scale;
    }
    ≡ stated lines = rw (wide, high, left, right, top, bottom, scale) refl in
    same

roomy : (paper : Paper) → HasBodyRoom paper → is_wide_enough paper ≡ true
roomy paper room =
    let wide : nat_le 10000 (body_width paper) ≡ true = le-leb 10000 (body_width paper) room.0 in
    let high : nat_le 10000 (body_height paper) ≡ true = le-leb 10000 (body_height paper) room.1 in
    rw (wide, high) refl

room_of : (paper : Paper) → is_wide_enough paper ≡ true → HasBodyRoom paper
room_of paper e =
    let parts = and_parts _ _ e in
    (leb-true 10000 (body_width paper) parts.0, leb-true 10000 (body_height paper) parts.1)

-- the values read are the paper
pub paper-is : (lines : List Line) → IsPaperBy lines (paper_of lines)
unfolding paper_of
paper-is lines =
    cond_both (is_wide_enough (stated lines)) (stated lines) default_paper (IsPaperBy lines)
    (λ wide.
    record { stated = stated lines; states = stated-is lines; chosen = inl (room_of (stated lines) wide, refl) })
    (λ small. record {
      stated = stated lines;
      states = stated-is lines;
      chosen = inr (λ room. both_ways _ small (roomy (stated lines) room), refl);
    })

chosen-one : (p paper : Paper) → (HasBodyRoom p × (paper ≡ p)) ⊎ ((HasBodyRoom p → ⊥) × (paper ≡ default_paper))
    → paper ≡ cond (is_wide_enough p) p default_paper
chosen-one p paper (inl room) = rw (roomy p room.0) room.1
chosen-one p paper (inr none) = rw (false_from_ne_true _ (λ wide. none.0 (room_of p wide))) none.1

-- and no other is
pub paper-one : (lines : List Line) (paper : Paper) → IsPaperBy lines paper → paper ≡ paper_of lines
unfolding paper_of
paper-one lines paper is =
    chosen-one is.stated paper is.chosen
    ∙ ap (λ p. cond (is_wide_enough p) p default_paper) (stated-one lines is.stated is.states)
