-- A tree at top level: a define before its body and after it, and any other form.
use Prim.Native.Nat.{ℕ, ◌+◌, ◌-◌, ◌*◌, ◌≤◌, ◌<◌}
use mathlib.Core.List.{List}
use mathlib.Core.Bool.{Bool, true, false}
use mathlib.Core.Path.{◌≡◌, refl, ap, sym, subst, ◌∙◌}
use native.Mathlib.Omega.{arith}
use lib.ListN.{length, drop, length-drop}
use Rattle.tree.specs.Record.{Record, width, records, nth}
use Rattle.tree.proofs.Laws.Record.{length-records, records-drop}
use Rattle.tree.specs.Tree.{Ident, Node, Tree, ident, const, if, letin, define, lambda, sequence, call, set!, size}
use Rattle.tree.proofs.Laws.Parts.{own}
use Rattle.tree.specs.Stands.{Stands}
use Rattle.tree.proofs.Laws.Stands.{root, root_form, tree_inside, tree_few}
use Rattle.tree.proofs.Laws.Stands.Parts.{NamedParts, define_parts}
use Rattle.tree.proofs.Laws.Stands.Forms.{define_of_lem}
use Rattle.pass.specs.State.{State}
use Rattle.pass.specs.Visit.{top_flags, is_lambda, visit, visit_top_define, visit_top}
use Rattle.pass_laws.specs.Visitable.{Visitable}
use Rattle.pass_laws.specs.Laws.Visitable.Leaves.{define_begins}
use Rattle.pass_laws.specs.Laws.Visitable.Tops.{top_lambda_body, top_value_body}
use Rattle.work.specs.Known.{Known}
use Rattle.work.specs.Tied.{Raw, raw, Tied, Here, Fits}
use Rattle.work.specs.Passes.{in_context}
use Rattle.work.specs.declared.Pass.{Pass}
use Rattle.walk.specs.Contract.{SomeTreeOf, TellsBody}
use Rattle.walk.specs.declared.body.Body.{Body as Says}
use Rattle.names.specs.Contract.{Room, Defined, EntersValue}
use Rattle.flags.specs.Flags.{FlagsAre}
use Rattle.forms.specs.Contract.{DefineFits}
use Rattle.flags.specs.declared.Flags.{Flags as Coded}
use Rattle.visits.specs.Contract.{Fit, Done}
use Rattle.visits.specs.Tops.{before_top, after_top, BeforeTop, leaves_top, TopFits, VisitsTop}
use Rattle.work.specs.Laws.Known.{known_ident}
use Rattle.visits.proofs.Views.{part-on, own_record, small, names_room}
use Rattle.work.specs.Laws.Fits.{tied_context}

-- Before the body

module _ {rs : List ℕ} {at : ℕ} {p : Pass} {F w : List ℕ} where
  pub name_inside : DefineFits rs at p F w → at + 1 < length (records rs)
  name_inside x = let v = define_parts x.stands in omega (arith, v.place, v.name.inside)

  here : {N : ℕ} {C A : List ℕ} {s : State} {n : Node} {x : Ident} {t : Tree} → NamedParts N rs at 5 n x t → Fits rs (raw p F C A w) s
      → Here rs (at + 1) (raw p F C A w) s x
  here v f = record { known = known_ident v.name; place = v.place; good = f.good; tied = f.tied }

  pub value_fits : DefineFits rs at p F w → Room p × Defined rs (at + 1) p F w
  value_fits x = (
    omega (arith, x.room),
    record { captured = x.captured; arguments = x.arguments; s = x.s; x = x.x; here = here (define_parts x.stands) x.fits },
  )

  module _ {b : Says} where
    pub before_lambda : {i : ℕ} {q : Pass} → b.lambda ≡ true → i ≡ (nth rs (at + 1)).id → q ≡ in_context i p → BeforeTop rs at b p F w q F w
    before_lambda {i} {q} l j k = record {
      is = λ classes C A s n x t u e f.
          let z : is_lambda t ≡ true = sym (ap (λ (c : Says). c.lambda) e) ∙ l in
          let v = define_parts u in
          let d : i ≡ x.id = j ∙ ap (λ (m : ℕ). (nth rs m).id) (sym v.place) ∙ ap (λ (r : Record). r.id) v.name.is in
          rw (z, k, d) (tied_context x.id f.tied);
    }

    pub before_value : {p' : Pass} {F' w' : List ℕ} → b.lambda ≡ false → EntersValue b rs (at + 1) p F w p' F' w' → BeforeTop rs at b p F w p' F' w'
    before_value l o = record {
      is = λ classes C A s n x t u e f.
          let z : is_lambda t ≡ false = sym (ap (λ (c : Says). c.lambda) e) ∙ l in
          rw z ((o.is classes t C e).is A s x (here (define_parts u) f));
    }

-- The whole

top-define : (classes : List ℕ) (l : Bool) (x : Ident) (b : Tree) (s : State)
    → after_top l (visit classes b top_flags (before_top classes l x b s)) ≡ visit_top_define classes l x b s
top-define classes true x b s = refl
top-define classes false x b s = refl

left-top : (l : Bool) {p : Pass} {F C A w : List ℕ} {s : State} → Tied (raw p F C A w) s → Tied (raw (leaves_top l p) F C A w) (after_top l s)
left-top true t = tied_context _ t
left-top false t = t

module _ {classes rs part : List ℕ} {at : ℕ} {z : Raw} (x : TopFits classes rs part at z) where
  -- its own record is the first of the part

  pub inside : 0 < length (records part)
  inside =
      let l : length (records part) ≡ length (drop at (records rs)) = ap (λ (l : List ℕ). length (records l)) x.is ∙ ap length (records-drop rs at) in
      omega (arith, l, length-drop at (records rs), (root x.stands).inside)

  pub own-form : {n : ℕ} → n ≡ (nth part 0).form → n ≡ (nth rs at).form
  own-form e = e ∙ ap (λ (r : Record). r.form) (own_record rs at x.is)

module _ {classes rs part : List ℕ} {at : ℕ} {p : Pass} {F C A w : List ℕ} where
  pub record DefineView (x : TopFits classes rs part at (raw p F C A w)) : Type 0 where
    pub n : Node
    pub y : Ident
    pub b : Tree
    pub tree : x.t ≡ define n y b
    pub parts : NamedParts (length classes) rs at 5 n y b
    pub stands : Stands (length classes) rs at (define n y b)
    pub fits : Visitable (Known rs) at (define n y b) top_flags x.s

  module _ (e : (nth rs at).form ≡ 5) where
    pub view : (x : TopFits classes rs part at (raw p F C A w)) → DefineView x
    view x =
        let v = define_of_lem x.stands e in
        record {
          n = v.n;
          y = v.x;
          b = v.b;
          tree = v.is;
          parts = v.parts;
          stands = subst (λ (t : Tree). Stands (length classes) rs at t) v.is x.stands;
          fits = subst (λ (t : Tree). Visitable (Known rs) at t top_flags x.s) v.is x.fits;
        }

    -- the body stands two records on
    pub long : TopFits classes rs part at (raw p F C A w) → width * 2 ≤ length part
    unfolding size
    long x =
        let v = view x in
        let l : length part ≡ length rs - width * at = ap length x.is ∙ length-drop (width * at) rs in
        omega (arith, tree_inside v.stands, length-records rs, l)

    pub body_tree : TopFits classes rs part at (raw p F C A w) → SomeTreeOf (length classes) rs (at + 2)
    body_tree x = let v = view x in record { t = v.b; stands = v.parts.body }

    held : (x : TopFits classes rs part at (raw p F C A w)) → Fits rs (raw p F C A w) x.s
    held x =
        let v = view x in
        record { good = (define_begins small classes at top_flags x.s v.n v.y v.b v.fits).reliable.good; tied = x.tied }

    pub define-fits : TopFits classes rs part at (raw p F C A w) → DefineFits rs at p F w
    define-fits x =
        let v = view x in
        record {
          names = length classes;
          captured = C;
          arguments = A;
          s = x.s;
          n = v.n;
          x = v.y;
          t = v.b;
          stands = v.stands;
          fits = held x;
          room = names_room x.tied refl (define_begins small classes at top_flags x.s v.n v.y v.b v.fits).room.live;
        }

    module _ {says : Says} {p₁ : Pass} {F₁ w₁ q : List ℕ} {g : Coded} (b : TellsBody classes rs (at + 2) says)
        (o : BeforeTop rs at says p F w p₁ F₁ w₁) (h : FlagsAre g top_flags) (d : q ≡ drop (width * 2) part) where
      pub body-fits : TopFits classes rs part at (raw p F C A w) → Fit classes rs q (at + 2) g (raw p₁ F₁ C A w₁)
      body-fits x =
          let v = view x in
          record {
            t = v.b;
            f = top_flags;
            s = before_top classes (is_lambda v.b) v.y v.b x.s;
            is = part-on rs at 2 x.is d;
            stands = v.parts.body;
            flags = h;
            tied = o.is classes C A x.s v.n v.y v.b v.stands (b.is v.b v.parts.body) (held x);
            fits = go v (is_lambda v.b);
          }
        where
          go : (v : DefineView x) (l : Bool) → Visitable (Known rs) (at + 2) v.b top_flags (before_top classes l v.y v.b x.s)
          go v true = top_lambda_body small classes at v.n v.y v.b x.s v.fits
          go v false = top_value_body small classes at v.n v.y v.b x.s v.fits

      pub used_few : {n₁ : ℕ} → ((y : Fit classes rs q (at + 2) g (raw p₁ F₁ C A w₁)) → n₁ ≡ size y.t)
          → TopFits classes rs part at (raw p F C A w) → n₁ ≤ 4096
      unfolding body-fits
      used_few u x = let v = view x in omega (arith, u (body-fits x), tree_few v.parts.body)

      pub define_done : {n₁ : ℕ} {p₂ p₃ : Pass} {F₂ C₂ A₂ w₂ : List ℕ} → Done classes rs q (at + 2) g (raw p₁ F₁ C A w₁) n₁ (raw p₂ F₂ C₂ A₂ w₂)
          → p₃ ≡ leaves_top says.lambda p₂ → VisitsTop classes rs part at (raw p F C A w) (2 + n₁) (raw p₃ F₂ C₂ A₂ w₂)
      unfolding size visit_top body-fits
      define_done {n₁} {p₂} {p₃} {F₂} {C₂} {A₂} {w₂} r k = record {
        used = λ x.
            let v = view x in
            let a : n₁ ≡ size v.b = r.used (body-fits x) in
            rw v.tree (omega arith);
        state = λ x.
            let v = view x in
            let l : says.lambda ≡ is_lambda v.b = ap (λ (c : Says). c.lambda) (b.is v.b v.parts.body) in
            let z = left-top (is_lambda v.b) (r.state (body-fits x)) in
            let e₃ : leaves_top (is_lambda v.b) p₂ ≡ p₃ = ap (λ (i : Bool). leaves_top i p₂) (sym l) ∙ sym k in
            let s = visit classes v.b top_flags (before_top classes (is_lambda v.b) v.y v.b x.s) in
            let y = subst (λ (i : Pass). Tied (raw i F₂ C₂ A₂ w₂) (after_top (is_lambda v.b) s)) e₃ z in
            subst (λ (t : Tree). Tied (raw p₃ F₂ C₂ A₂ w₂) (visit_top classes t x.s)) (sym v.tree)
            (subst (Tied (raw p₃ F₂ C₂ A₂ w₂)) (top-define classes (is_lambda v.b) v.y v.b x.s) y);
      }

-- Any other form is visited as it is elsewhere

same_visit : (classes : List ℕ) (t : Tree) (s : State) → ((own t).form ≡ 5 → ⊥) → visit classes t top_flags s ≡ visit_top classes t s
unfolding own visit visit_top
same_visit classes (ident x) s h = refl
same_visit classes (const n q) s h = refl
same_visit classes (if n a b c) s h = refl
same_visit classes (letin n xs es b) s h = refl
same_visit classes (define n x b) s h = absurd (h refl)
same_visit classes (lambda n xs b) s h = refl
same_visit classes (sequence n es) s h = refl
same_visit classes (call n e es) s h = refl
same_visit classes (set! n x e) s h = refl

module _ {classes rs part : List ℕ} {at : ℕ} {z : Raw} where
  pub other_fits : {g : Coded} → FlagsAre g top_flags → TopFits classes rs part at z → Fit classes rs part at g z
  other_fits h x = record { t = x.t; f = top_flags; s = x.s; is = x.is; stands = x.stands; flags = h; tied = x.tied; fits = x.fits }

  pub other_done : {g : Coded} {n : ℕ} {z' : Raw} → ((nth rs at).form ≡ 5 → ⊥) → FlagsAre g top_flags → Done classes rs part at g z n z'
      → VisitsTop classes rs part at z n z'
  unfolding other_fits
  other_done {z' = z'} h f r = record {
    used = λ x. r.used (other_fits f x);
    state = λ x. subst (Tied z') (same_visit classes x.t x.s (λ e. h (root_form x.stands ∙ e))) (r.state (other_fits f x));
  }
