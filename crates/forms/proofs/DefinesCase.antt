-- Defines, over states.
use Prim.Native.Nat.{ℕ, ◌+◌, ◌<◌}
use mathlib.Core.List.{List}
use mathlib.Core.Bool.{Bool, true, false}
use mathlib.Core.Path.{◌≡◌, ap, sym, ◌∙◌}
use native.Mathlib.Omega.{arith}
use lib.ListN.{length}
use Rattle.tree.specs.Record.{records, nth}
use Rattle.tree.specs.Tree.{Ident, Node, Tree, define}
use Rattle.tree.specs.Stands.{Stands}
use Rattle.tree.proofs.Laws.Stands.Parts.{NamedParts, define_parts}
use Rattle.semantic.specs.Information.{NONE}
use Rattle.semantic.specs.declared.IdentifierStatus.TheVariants.{Local}
use Rattle.pass.specs.State.{State, with_context}
use Rattle.pass.specs.Read.{enter_define}
use Rattle.pass.specs.Visit.{is_lambda, open_define, close_define}
use Rattle.work.specs.Passes.{in_context}
use Rattle.work.specs.Tied.{raw, Tied, Here, Fits}
use Rattle.work.specs.declared.Pass.{Pass}
use Rattle.walk.specs.Contract.{body_of}
use Rattle.walk.specs.declared.body.Body.{Body as Says}
use Rattle.names.specs.Contract.{Room, Defined, DefinesBy}
use Rattle.forms.specs.Contract.{DefineFits, OpensDefine, EntersInnerValue, ClosesDefine, enter_inner_value}
use Rattle.work.specs.Laws.Fits.{tied_context}
use Rattle.work.specs.Laws.Known.{known_ident}
use Rattle.names.specs.Laws.Idents.{known_id}

-- the name of a define that stands in its place
pub define_here : {N : ℕ} {rs : List ℕ} {at : ℕ} {n : Node} {x : Ident} {t : Tree} {p : Pass} {F C A w : List ℕ} {s : State}
    → NamedParts N rs at 5 n x t → Fits rs (raw p F C A w) s → Here rs (at + 1) (raw p F C A w) s x
define_here d f = record { known = known_ident d.name; place = d.place; good = f.good; tied = f.tied }

module _ (rs : List ℕ) (at : ℕ) (p : Pass) (F w : List ℕ) where
  pub name_inside : DefineFits rs at p F w → at + 1 < length (records rs)
  name_inside a = let d = define_parts a.stands in omega (arith, d.place, d.name.inside)

  pub define_room : DefineFits rs at p F w → Room p × Defined rs (at + 1) p F w
  define_room a =
      (omega (arith, a.room), record { captured = a.captured; arguments = a.arguments; s = a.s; x = a.x; here = define_here (define_parts a.stands) a.fits })

  -- what a define that enters makes of the state
  module _ {b : Says} {p' : Pass} {F' w' : List ℕ} (d : DefinesBy b Local NONE rs (at + 1) p F w p' F' w') where
    entered : (classes : List ℕ) {C A : List ℕ} {s : State} {n : Node} {x : Ident} {t : Tree} → Stands (length classes) rs at (define n x t) → b ≡ body_of classes t
        → Fits rs (raw p F C A w) s → Tied (raw p' F' C A w') (enter_define classes Local NONE x t s)
    entered classes {C} {A} {s} {n} {x} {t} a e f = (d.is classes t C e).is A s x (define_here (define_parts a) f)

    pub lambda_define_opens : {direct : Bool} {i : ℕ} → direct ≡ false → b.lambda ≡ true → i ≡ (nth rs (at + 1)).id
        → OpensDefine rs at direct b p F w (in_context i p') F' w'
    lambda_define_opens u l i = record {
      is = λ classes C A s n x t a e f.
          let z : is_lambda t ≡ true = sym (ap (λ (c : Says). c.lambda) e) ∙ l in
          let d = define_parts a in
          rw (u, z, i ∙ known_id (known_ident d.name) d.place) (tied_context x.id (entered classes a e f));
    }

    pub value_entered : b.lambda ≡ false → EntersInnerValue rs at b p F w p' F' w'
    value_entered l = record {
      is = λ classes C A s n x t a e f.
          let z : is_lambda t ≡ false = sym (ap (λ (c : Says). c.lambda) e) ∙ l in
          rw z (entered classes a e f);
    }

  module _ {b : Says} where
    pub direct_opens : {direct : Bool} {i : ℕ} → direct ≡ true → i ≡ (nth rs (at + 1)).id → OpensDefine rs at direct b p F w (in_context i p) F w
    direct_opens u i = record {
      is = λ classes C A s n x t a e f.
          let d = define_parts a in
          rw (u, i ∙ known_id (known_ident d.name) d.place) (go classes C A s x t (is_lambda t) (tied_context x.id f.tied));
    }
      where
        go : (classes C A : List ℕ) (s : State) (x : Ident) (t : Tree) (l : Bool) → Tied (raw (in_context x.id p) F C A w) (with_context x.id s)
            → Tied (raw (in_context x.id p) F C A w) (open_define classes true l x t s)
        go classes C A s x t true k = k
        go classes C A s x t false k = k

    pub value_opens : {direct : Bool} → direct ≡ false → b.lambda ≡ false → OpensDefine rs at direct b p F w p F w
    value_opens u l = record {
      is = λ classes C A s n x t a e f.
          let z : is_lambda t ≡ false = sym (ap (λ (c : Says). c.lambda) e) ∙ l in
          rw (u, z) f.tied;
    }

    pub no_value : b.lambda ≡ true → EntersInnerValue rs at b p F w p F w
    no_value l = record {
      is = λ classes C A s n x t a e f.
          let z : is_lambda t ≡ true = sym (ap (λ (c : Says). c.lambda) e) ∙ l in
          rw z f.tied;
    }

    -- after the body
    module _ {p' : Pass} {F' w' : List ℕ} (v : EntersInnerValue rs at b p F w p' F' w') {direct : Bool} {context : ℕ} where
      pub direct_closes : direct ≡ true → ClosesDefine rs at direct context b p F w (in_context context p') F' w'
      direct_closes u = record {
        is = λ classes C A s n x t a e f. rw u (go classes C A s x t (is_lambda t) (tied_context context (v.is classes C A s n x t a e f)));
      }
        where
          go : (classes C A : List ℕ) (s : State) (x : Ident) (t : Tree) (l : Bool)
              → Tied (raw (in_context context p') F' C A w') (with_context context (enter_inner_value classes l x t s))
              → Tied (raw (in_context context p') F' C A w') (close_define classes true l context x t s)
          go classes C A s x t true k = k
          go classes C A s x t false k = k

      pub lambda_define_closes : direct ≡ false → b.lambda ≡ true → ClosesDefine rs at direct context b p F w (in_context context p') F' w'
      lambda_define_closes u l = record {
        is = λ classes C A s n x t a e f.
            let z : is_lambda t ≡ true = sym (ap (λ (c : Says). c.lambda) e) ∙ l in
            rw (u, z) (tied_context context (rw z at (v.is classes C A s n x t a e f)));
      }

      pub value_closes : direct ≡ false → b.lambda ≡ false → ClosesDefine rs at direct context b p F w p' F' w'
      value_closes u l = record {
        is = λ classes C A s n x t a e f.
            let z : is_lambda t ≡ false = sym (ap (λ (c : Says). c.lambda) e) ∙ l in
            rw (u, z) (rw z at (v.is classes C A s n x t a e f));
      }
