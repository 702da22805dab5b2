-- Reading a music line part by part.
use Rattle.std.proofs.Common.{List, ◌++◌, Option, refl, sym, ap, ◌∙◌, subst, append_assoc, flat_map}
use Rattle.std.proofs.lemmas.Grind.{flat_map-append}
use Rattle.abc_lines.specs.declared.book.Line.{Line}
use Rattle.abc_lines.specs.declared.fault.Fault.{Fault}
use Rattle.abc_lines.specs.declared.fault.TuneError.{TuneError}
use Rattle.abc_field.specs.declared.directive.Breaks.{Breaks}
use Rattle.abc_music.specs.declared.token.Placed.{Placed}
use Rattle.abc_music.specs.declared.token.TokenCursor.{TokenCursor}
use Rattle.abc_music.specs.declared.token.LineRest.{LineRest}
use Rattle.abc_music.specs.Tokens.{GivesTokensFrom, LeadsTo, PartOf}
use Rattle.abc_music.proofs.Line.{ReadTo, read_more}
use Rattle.abc_music.proofs.Prefixes.{after_part}
use Rattle.abc_items.specs.declared.body.Body.{Body}
use Rattle.abc_items.specs.Body.{ItemOrFault, placed_given, item_of_line_end, MusicGives}
use Rattle.abc_items.specs.Reading.{Reads, Stops, ReadsSome, StopsBy}
use Rattle.abc_items.proofs.Laws.{reads_both, stops_before, stops_after, stops_by}

abbrev tokens_give : Breaks → Line → List Placed → List ItemOrFault
tokens_give breaks line tokens = flat_map (placed_given breaks line) tokens

-- the state of the reading: tokens lead up to it, and a body has their items
pub record LineStage (breaks : Breaks) (line : Line) (before : Body) (place : TokenCursor) (body : Body) : Type 0 where
  pub so_far : List Placed
  pub read : ReadTo breaks.bang line so_far place
  pub reads : Reads before (tokens_give breaks line so_far) body

module _ (breaks : Breaks) (line : Line) (before : Body) (place : TokenCursor) (body : Body)
    (stage : LineStage breaks line before place body) where
  pub part_more : (tokens : List Placed) (next : TokenCursor) (after : Body)
      → LeadsTo breaks.bang line place tokens next → Reads body (tokens_give breaks line tokens) after
      → LineStage breaks line before next after
  part_more tokens next after on reads = record {
    so_far = stage.so_far ++ tokens;
    read = read_more breaks.bang line place next stage.so_far tokens (stage.so_far ++ tokens) stage.read on refl;
    reads =
        subst (λ g. Reads before g after) (sym (flat_map-append (placed_given breaks line) stage.so_far tokens))
        (reads_both before body after (tokens_give breaks line stage.so_far) (tokens_give breaks line tokens)
        stage.reads reads);
  }

  abbrev whole : List Placed → Option Fault → List ItemOrFault
  whole tokens fault =
      tokens_give breaks line stage.so_far ++ (tokens_give breaks line tokens ++ item_of_line_end breaks line fault)

  gives_whole : (tokens : List Placed) (fault : Option Fault)
      → GivesTokensFrom breaks.bang line place tokens fault → MusicGives breaks line (whole tokens fault)
  gives_whole tokens fault from =
      let last = item_of_line_end breaks line fault in (
        stage.so_far ++ tokens,
        fault,
        stage.read tokens fault from,
        sym (append_assoc (tokens_give breaks line stage.so_far) (tokens_give breaks line tokens) last)
            ∙ ap (λ g. g ++ last) (sym (flat_map-append (placed_given breaks line) stage.so_far tokens)),
      )

  stops_so : (tokens : List Placed) (fault : Option Fault) (e : TuneError)
      → GivesTokensFrom breaks.bang line place tokens fault
      → Stops body (tokens_give breaks line tokens ++ item_of_line_end breaks line fault) e
      → StopsBy (MusicGives breaks line) before e
  stops_so tokens fault e from stops =
      stops_by (MusicGives breaks line) before (whole tokens fault) e (gives_whole tokens fault from)
      (stops_after before body (tokens_give breaks line stage.so_far)
      (tokens_give breaks line tokens ++ item_of_line_end breaks line fault) e stage.reads stops)

  pub part_ends : (tokens : List Placed) (fault : Option Fault) (after end : Body)
      → GivesTokensFrom breaks.bang line place tokens fault → Reads body (tokens_give breaks line tokens) after
      → Reads after (item_of_line_end breaks line fault) end
      → ReadsSome (MusicGives breaks line) before end
  part_ends tokens fault after end from reads last = record {
    given = whole tokens fault;
    gives_so = gives_whole tokens fault from;
    reads =
        reads_both before body end (tokens_give breaks line stage.so_far)
        (tokens_give breaks line tokens ++ item_of_line_end breaks line fault) stage.reads
        (reads_both body after end (tokens_give breaks line tokens) (item_of_line_end breaks line fault) reads last);
  }

  pub end_stops : (tokens : List Placed) (fault : Option Fault) (after : Body) (e : TuneError)
      → GivesTokensFrom breaks.bang line place tokens fault → Reads body (tokens_give breaks line tokens) after
      → Stops after (item_of_line_end breaks line fault) e
      → StopsBy (MusicGives breaks line) before e
  end_stops tokens fault after e from reads stops =
      stops_so tokens fault e from
      (stops_after body after (tokens_give breaks line tokens) (item_of_line_end breaks line fault) e reads stops)

  pub part_stops : (tokens : List Placed) (following : LineRest) (e : TuneError)
      → PartOf breaks.bang line place tokens following → Stops body (tokens_give breaks line tokens) e
      → StopsBy (MusicGives breaks line) before e
  part_stops tokens following e part stops =
      let all = after_part breaks.bang line place tokens following part in
      let last = item_of_line_end breaks line all.1 in
      stops_so (tokens ++ all.0) all.1 e all.2
      (subst (λ g. Stops body g e)
      (sym (append_assoc (tokens_give breaks line tokens) (tokens_give breaks line all.0) last)
      ∙ ap (λ g. g ++ last) (sym (flat_map-append (placed_given breaks line) tokens all.0)))
      (stops_before body (tokens_give breaks line tokens) (tokens_give breaks line all.0 ++ last) e stops))
