-- What the lines of a prolog define.
use Rattle.std.proofs.Common.{◌≡◌, ℕ, ℤ, true, List, [], ◌∷◌, ◌++◌, append_assoc, None, refl, arith, codes}
use Rattle.std.proofs.lemmas.Int.{ints}
use Rattle.std.proofs.lemmas.Bool.{and_parts}
use Rattle.std.specs.List.{flat_map, list_all}
use Rattle.mus_units.specs.declared.glyph.Glyph.{Glyph}
use Rattle.glyph_paths.specs.declared.paths.PathOp.{PathOp}
use Rattle.glyph_paths.specs.Names.{glyph_name}
use Rattle.glyph_paths.specs.Outlines.{outline_of}
use Rattle.glyph_paths.specs.Procedure.{step_text, path_text, procedure_text}
use Rattle.ps_steps.specs.declared.token.SimpleToken.{SimpleToken}
use Rattle.ps_steps.specs.declared.token.MachineToken.TheVariants.{Procedure as procedure_token}
use Rattle.ps_steps.specs.declared.value.Operand.TheVariants.{Label as label_value, Body as body_value}
use Rattle.ps_steps.specs.Near.{is_near}
use Rattle.ps_steps.specs.Tokens.{opening_front, procedure_at, Body}
use Rattle.ps_steps.specs.State.{State}
use Rattle.ps_steps.specs.Operators.{def_op, gsave_op, grestore_op, translate_op, all_near, defined}
use Rattle.ps_steps.specs.Steps.{state_before, from_text, Step, here, step}
use Rattle.ps_paint.proofs.Bodies.{step_numbers, step_tokens, glyph_body}
use Rattle.ps_paint.proofs.Glyphs.{is_small, are_small}
use Rattle.ps_paint.proofs.GlyphTable.{fine}
use Rattle.ps_paint.proofs.Runs.{no_more, op}
use Rattle.ps_paint.proofs.Takes.{Takes, both_taken, takes_token, space_passed, takes_operator}
use Rattle.ps_paint.proofs.Lexing.{Lexes, nothing_lexed, both_lexed, IsNewName, label_stands, ends, lex_numbers}
use Rattle.ps_paint.proofs.Lexing.{piece_stands, lexed}

smalls_near : (zs : List ℤ) → list_all is_small zs ≡ true → all_near zs ≡ true
smalls_near [] e = refl
smalls_near (z ∷ zs) e =
    let t = and_parts (is_small z) (list_all is_small zs) e in
    let first : is_near z ≡ true = grind (arith, ints, t.0) in
    rw (first, smalls_near zs t.1) refl

-- the steps of a path
lex_step : (s : PathOp) → list_all is_small (step_numbers s) ≡ true → Lexes (step_text s) (step_tokens s)
lex_step (PathOp.Move x y) e =
    both_lexed (lex_numbers (x ∷ y ∷ []) (smalls_near (x ∷ y ∷ []) e)) (lexed (codes "m ") _ refl refl)
lex_step (PathOp.Line x y) e =
    both_lexed (lex_numbers (x ∷ y ∷ []) (smalls_near (x ∷ y ∷ []) e)) (lexed (codes "l ") _ refl refl)
lex_step (PathOp.Curve a b c d x y) e =
    let zs = a ∷ b ∷ c ∷ d ∷ x ∷ y ∷ [] in
    both_lexed (lex_numbers zs (smalls_near zs e)) (lexed (codes "c ") _ refl refl)
lex_step PathOp.Fill e = lexed (codes "h ") _ refl refl
lex_step PathOp.Stroke e = lexed (codes "k ") _ refl refl

lex_steps : (steps : List PathOp)
    → are_small steps ≡ true → Lexes (flat_map step_text steps) (flat_map step_tokens steps)
lex_steps [] e = nothing_lexed
lex_steps (s ∷ rest) e =
    let t = and_parts (list_all is_small (step_numbers s)) (are_small rest) e in
    both_lexed (lex_step s t.0) (lex_steps rest t.1)

-- the line `/NAME {BODY} def`
abbrev pub definition : List ℕ → List ℕ → List ℕ
definition name body = 47 ∷ name ++ 32 ∷ 123 ∷ (body ++ 125 ∷ codes " def\n")

-- a procedure and a space are pushed
takes_body : (body : List ℕ) (ts : List SimpleToken) (m : State)
    → ((rest : List ℕ) → Body (body ++ 125 ∷ rest) ts rest)
    → Takes 1 (123 ∷ (body ++ 125 ∷ 32 ∷ [])) m (record m { stack = body_value ts ∷ m.stack })
takes_body body ts m b = record {
  take = λ rest.
      let r = 32 ∷ rest in let s = body ++ 125 ∷ r in let k : State = record m { stack = body_value ts ∷ m.stack } in
      let next = from_text m (123 ∷ s) r (procedure_token ts) (procedure_at s r ts (opening_front s refl) (b r)) in
      let one : Step (state_before m (123 ∷ s)) (state_before k rest) = record {
        token = procedure_token ts;
        rest = state_before m rest;
        body = [];
        state = k;
        next = next;
        went = refl;
        is = refl;
      } in
      rw (append_assoc body (125 ∷ 32 ∷ []) rest)
      (step 0 (state_before m (123 ∷ s)) (state_before k rest) (state_before k rest) one (here (state_before k rest)));
}

-- the line makes the definition, in three tokens
pub takes_definition : (name body : List ℕ) (ts : List SimpleToken) (m : State)
    → IsNewName name → ((rest : List ℕ) → Body (body ++ 125 ∷ rest) ts rest) → m.names (codes "def") ≡ None
    → Takes 3 (definition name body) m (record m { names = defined name ts m.names })
takes_definition name body ts m n b free =
    let m1 : State = record m { stack = label_value name ∷ m.stack } in
    let m2 : State = record m { stack = body_value ts ∷ label_value name ∷ m.stack } in
    let label : Takes 1 ((47 ∷ name) ++ 32 ∷ []) m m1 = takes_token (label_stands n) space_passed refl no_more in
    let last : Takes 1 (codes "def" ++ 10 ∷ []) m2 (record m { names = defined name ts m.names }) =
    takes_operator def_op free refl in
    rw (
      append_assoc body (125 ∷ 32 ∷ []) (codes "def\n"),
      append_assoc name (32 ∷ []) (123 ∷ (body ++ 125 ∷ codes " def\n")),
    ) at (both_taken label (both_taken (takes_body body ts m1 b) last))

abbrev glyph_body_text : Glyph → List ℕ
glyph_body_text g = (codes "gsave translate translate " ++ flat_map step_text (outline_of g)) ++ codes "grestore"

glyph_lexed : (g : Glyph) (rest : List ℕ) → Body (glyph_body_text g ++ 125 ∷ rest) (glyph_body g) rest
glyph_lexed g rest =
    let front : Lexes (codes "gsave translate translate ") (op gsave_op ∷ op translate_op ∷ op translate_op ∷ []) =
    lexed (codes "gsave translate translate ") _ refl refl in
    ends (both_lexed front (lex_steps (outline_of g) ((fine g).small)))
    (piece_stands (codes "grestore") (op grestore_op) refl) rest

-- the line of a glyph
glyph_definition : (g : Glyph) → procedure_text g ++ 10 ∷ [] ≡ definition (glyph_name g) (glyph_body_text g)
unfolding procedure_text path_text
glyph_definition g = simp append_assoc

pub takes_glyph : (g : Glyph) (m : State)
    → m.names (codes "def") ≡ None
    → Takes 3 (procedure_text g ++ 10 ∷ []) m (record m { names = defined (glyph_name g) (glyph_body g) m.names })
takes_glyph g m free =
    let t = fine g in
    let new : IsNewName (glyph_name g) = record { regular = t.regular; good = t.good; other = t.other } in
    rw (glyph_definition g)
    (takes_definition (glyph_name g) (glyph_body_text g) (glyph_body g) m new (glyph_lexed g) free)
