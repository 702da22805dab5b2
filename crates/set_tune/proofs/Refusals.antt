-- The stages of a tune's setting combined: what each refuses is the one fault of the tune.
use Rattle.std.proofs.Common.{◌≡◌, sym, subst, inl, inr, ℕ, None, Some, Result, Ok, Err, IfErr, IfOk}
use Rattle.abc_lines.specs.declared.book.TuneText.{TuneText}
use Rattle.abc_lines.specs.declared.fault.TuneError.{TuneError}
use Rattle.abc_fields.specs.declared.header.Header.{Header}
use Rattle.abc_fields.specs.Papers.{body_height, body_width}
use Rattle.mus_score.specs.declared.score.Score.{Score}
use Rattle.lay_pages.specs.Titles.{title_block_of}
use Rattle.lay_pages.specs.Filling.{first_tall}
use Rattle.lay_tune.specs.Layout.{IsNoWay}
use Rattle.set_tune.specs.Terms.{Terms}
use Rattle.set_tune.specs.declared.tune.SetTune.{SetTune}
use Rattle.set_tune.specs.Blocks.{blocks_of}
use Rattle.set_tune.specs.Setting.{HasScore, IsFaultOfTune, IsLaid, IsLaidOut, IsLaidTune, IsLayoutRefusal}
use Rattle.set_tune.specs.Setting.{IsMovedRefusal, IsRefusal, IsSetTune, IsTallRefusal, of_header, of_score, of_share}
use Rattle.set_tune.specs.Setting.{no_way, of_move, too_tall}
use Rattle.set_tune.proofs.Apart.{staves_apart}

pub none_some : {X : Type 0} (x : X) → None ≡ Some x → ⊥
none_some x e = cc

pub score_refused : (tune : TuneText) (terms : Terms) (e : TuneError)
    → IsMovedRefusal tune terms.defaults terms.manner e → IsRefusal tune terms e
score_refused tune terms TuneError.Memory h = tt
score_refused tune terms (TuneError.Fault fault) (inl (inl h)) = of_header fault h
score_refused tune terms (TuneError.Fault fault) (inl (inr (header, has, is))) = of_score header fault has is
score_refused tune terms (TuneError.Fault fault) (inr (inl cant)) = of_share fault cant
score_refused tune terms (TuneError.Fault fault) (inr (inr (cant, at))) =
    subst (IsFaultOfTune tune terms) (sym at) (of_move cant)

-- no breaking is legal
pub layout_refused : (tune : TuneText) (terms : Terms) (header : Header) (score : Score) (width : ℕ) (e : TuneError)
    → HasScore tune terms.defaults terms.manner header score → width ≡ body_width terms.paper
    → IsLayoutRefusal tune width score e
    → IsRefusal tune terms e
layout_refused tune terms header score width TuneError.Memory has is h = tt
layout_refused tune terms header score width (TuneError.Fault fault) has is (reached, spans, none, at) =
    subst (IsFaultOfTune tune terms) (sym at)
    (no_way header score reached spans has (subst (λ w. IsNoWay score w reached spans) is none))

-- the tune up to its layout
pub laid_tune : (tune : TuneText) (terms : Terms) (header : Header) (score : Score) (width : ℕ) (t : SetTune)
    → HasScore tune terms.defaults terms.manner header score → width ≡ body_width terms.paper
    → IsLaid width header score t
    → IsLaidTune tune terms t
laid_tune tune terms header score width t has is laid = record {
  score =
      subst (λ h. HasScore tune terms.defaults terms.manner h t.score) (sym laid.head)
      (subst (λ s. HasScore tune terms.defaults terms.manner header s) (sym laid.music) has);
  title = subst (λ w. t.title ≡ title_block_of w t.header.titles t.header.composers t.header.tempo) is
      (subst (λ (h : Header). t.title ≡ title_block_of width h.titles h.composers h.tempo) (sym laid.head) laid.title);
  layout = subst (λ w. IsLaidOut w t) is laid.layout;
  apart = staves_apart tune terms.defaults terms.manner header t.score t.systems t.heights
      (subst (λ s. HasScore tune terms.defaults terms.manner header s) (sym laid.music) has) laid.layout.heights;
}

tall_error : (tune : TuneText) (terms : Terms) (high : ℕ) (t : SetTune) (e : TuneError)
    → IsLaidTune tune terms t → high ≡ body_height terms.paper → IsTallRefusal tune high t e → IsRefusal tune terms e
tall_error tune terms high t TuneError.Memory laid is h = tt
tall_error tune terms high t (TuneError.Fault fault) laid is (block, first, at) =
    subst (IsFaultOfTune tune terms) (sym at)
    (too_tall t block laid (subst (λ n. first_tall n (blocks_of t.title t.heights) ≡ Some block) is first))

-- a group is too high
pub tall_refused : (tune : TuneText) (terms : Terms) (high : ℕ) (t : SetTune) (r : Result SetTune TuneError)
    → IsLaidTune tune terms t → high ≡ body_height terms.paper → IfErr r (IsTallRefusal tune high t)
    → IfErr r (IsRefusal tune terms)
tall_refused tune terms high t (Ok set) laid is h = tt
tall_refused tune terms high t (Err e) laid is h = tall_error tune terms high t e laid is h

-- no group is too high
pub tune_set : (tune : TuneText) (terms : Terms) (high : ℕ) (t : SetTune) (r : Result SetTune TuneError)
    → IsLaidTune tune terms t → high ≡ body_height terms.paper → IfOk r (λ set. set ≡ t)
    → IfOk r (λ set. first_tall high (blocks_of set.title set.heights) ≡ None)
    → IfOk r (IsSetTune tune terms)
tune_set tune terms high t (Ok set) laid is same fits = record {
  laid = subst (IsLaidTune tune terms) (sym same) laid;
  fits = subst (λ n. first_tall n (blocks_of set.title set.heights) ≡ None) is fits;
}
tune_set tune terms high t (Err e) laid is same fits = tt
