-- The piece that is read is the longest.
use Rattle.std.proofs.Common.{◌≡◌, ℕ, Bool, List, Some, None, ap, ◌∙◌, inl, inr, IfSome}
use Rattle.abc_pieces.specs.declared.token.PieceBefore.{PieceBefore}
use Rattle.abc_pieces.specs.Forms.{Form, StandsAt}
use Rattle.abc_pieces.specs.Reading.{FormAndRest, read, piece_at}
use Rattle.abc_pieces.proofs.PieceTakes.{Takes, piece_at-takes}
use Rattle.abc_pieces.proofs.PieceReaches.{piece_at-reaches, longer}
use Rattle.abc_notes.proofs.PartLaws.{Reader}

abbrev with_rest : Form → List ℕ → Form × List ℕ
with_rest f x = (f, x)

some_is : (f g : Form) (x y : List ℕ) → read f x ≡ read g y → with_rest f x ≡ with_rest g y
some_is f g x y e = cc

stands : (bang : Bool) (before : PieceBefore) (s : List ℕ) (r : FormAndRest)
    → Takes bang before s r → IfSome r (λ z. StandsAt bang before z.0 s z.1)
stands bang before s None t = tt
stands bang before s (Some z) t = record { good = t.good; allowed = t.allowed; cut = t.cut }

pub piece_reader : (bang : Bool) (before : PieceBefore) → Reader Form (StandsAt bang before) (piece_at bang before)
piece_reader bang before = record {
  takes = λ s. stands bang before s (piece_at bang before s) (piece_at-takes bang before s);
  reaches = λ f s x t.
      let o = piece_at-reaches bang before f x t.good t.allowed in (
        (o.form, o.rest),
        ap (piece_at bang before) t.cut ∙ o.is,
        elim o.ends [ inl shorter ↦ inl shorter | inr same ↦ inr (some_is o.form f o.rest x same) ],
      );
  longer = λ f s x t. rw t.cut (longer bang f x t.good);
}
