-- A call's own fact, and the context: which define the walk is in.
use Prim.Native.Nat.{ℕ, suc, ◌+◌, ◌*◌, ◌≤◌, ◌<◌}
use mathlib.Core.List.{List}
use mathlib.Core.Bool.{Bool, true, false, not, true≢false}
use mathlib.Core.Path.{◌≡◌, refl, ap, sym, ◌∙◌}
use native.Mathlib.Omega.{arith}
use lib.ListN.{length}
use lib.Dec.{eqb}
use borrow.Author.Tests.{ne_eqb}
use Rattle.tree.specs.Record.{records, nth}
use Rattle.tree.specs.Tree.{Node, Tree, Trees, ident, const, if, letin, define, lambda, sequence, call, set!, nil, cons, begins, ands, whens, many}
use Rattle.tree.specs.Core.{core, peel}
use Rattle.tree.proofs.Laws.Core.{core_peel}
use Rattle.tree.proofs.Laws.Parts.{own}
use Rattle.tree.proofs.Laws.Stands.{root, root_form}
use Rattle.tree.proofs.Laws.Stands.Parts.{call_parts}
use Rattle.tree.specs.Stands.{Stands}
use Rattle.tree.proofs.Laws.Stands.Forms.{ident_of_lem}
use Rattle.semantic.specs.Information.{NONE}
use Rattle.semantic.specs.Rows.{Blank, CallSite, row_width, put_row}
use Rattle.semantic.specs.Kinds.{refers_in}
use Rattle.semantic.specs.Leaves.{Stores, Tells}
use Rattle.semantic.specs.declared.CallKind.{CallKind}
use Rattle.semantic.specs.declared.Span.{Span}
use Rattle.pass.specs.State.{State}
use Rattle.pass.specs.Visit.{is_self, call_kind, node_span, call_site, call_fact, clear_context}
use Rattle.pass.specs.Run.{rows_most, facts_length}
use Rattle.work.specs.Passes.{in_context}
use Rattle.work.specs.Laws.Works.{context_is}
use Rattle.work.specs.Tied.{raw, Tied, Fits}
use Rattle.work.specs.declared.Pass.{Pass}
use Rattle.names.specs.Facts.{span_of}
use Rattle.forms.specs.Contract.{ClearsContext}
use Rattle.work.specs.Laws.Fits.{fact_inside, facts_length_lem, tied_insert, tied_context, told}
use Rattle.forms.specs.Calls.{constant_record, TellsSelf, Called, MakesCall}
use Rattle.work.specs.Laws.Known.{known_ident}
use Rattle.walk.specs.Contract.{SomeTree, Reaches}
use Rattle.names.specs.Laws.Idents.{known-span}
use Rattle.forms.proofs.Heads.{reached}

-- Whether a fact refers to the define that the walk is in

module _ (at : ℕ) (p : Pass) (F : List ℕ) where
  pub no_context : p.context ≡ NONE → TellsSelf at p F (not (eqb p.context NONE))
  no_context e = record {
    is = λ rs C A w s x q f.
        let z : s.context ≡ NONE = sym (context_is f.tied.works) ∙ e in
        rw (context_is f.tied.works, z);
  }

  pub in_context_lem : at < rows_most → (p.context ≡ NONE → ⊥) → {r : ℕ} → Tells put_row Blank refers_in F at r → TellsSelf at p F (eqb r p.context)
  in_context_lem h n {r} k = record {
    is = λ rs C A w s x q f.
        let y : p.context ≡ s.context = context_is f.tied.works in
        let z : eqb s.context NONE ≡ false = rw (← y) (ne_eqb p.context NONE n) in
        rw (q, z, told f.tied f.good.rows at h refers_in k, y);
  }

  pub cleared : {b : Bool} → TellsSelf at p F b → b ≡ true → ClearsContext at p F (in_context NONE p)
  unfolding clear_context
  cleared {b} t e = record {
    is = λ rs C A w s x h f.
        let z : is_self s x ≡ true = sym (t.is rs C A w s x h f) ∙ e in
        rw z (tied_context NONE f.tied);
  }

  pub uncleared : {b : Bool} → TellsSelf at p F b → b ≡ false → ClearsContext at p F p
  unfolding clear_context
  uncleared {b} t e = record {
    is = λ rs C A w s x h f.
        let z : is_self s x ≡ false = sym (t.is rs C A w s x h f) ∙ e in
        rw z f.tied;
  }

-- The call's fact

module _ (rs : List ℕ) (at : ℕ) (p : Pass) (F : List ℕ) where
  pub head_tree : Called rs at p F → SomeTree rs (at + 1)
  head_tree a = record { names = a.names; tree = record { t = a.h; stands = (call_parts a.stands).operator } }

  pub call_inside : Called rs at p F → at < length (records rs)
  call_inside a = (root a.stands).inside

  pub call_facts : Called rs at p F → length F ≡ facts_length
  call_facts a = facts_length_lem a.fits.tied a.fits.good.rows

  pub call_fact_inside : Called rs at p F → row_width * at + row_width ≤ length F
  call_fact_inside a = fact_inside a.fits.tied a.fits.good.rows at (root a.stands).few

  -- the head is reached at the record r
  module _ {r : ℕ} (reaches : Reaches rs (at + 1) r) where
    head_at : {N : ℕ} {n : Node} {h : Tree} {es : Trees} → Stands N rs at (call n h es) → Stands N rs r (peel h)
    head_at {N} {h = h} a = reaches.is N h (call_parts a).operator

    pub head-inside : Called rs at p F → r < length (records rs)
    head-inside a = (root (head_at a.stands)).inside

    pub head_few : Called rs at p F → r < rows_most
    head_few a = (root (head_at a.stands)).few

    module _ {kind : CallKind} {place : Span} {F' : List ℕ} (stores : Stores put_row F at (CallSite (record { kind = kind; span = place })) F') where
      site_tied : {C A w : List ℕ} {s : State} (n : Node) (k : CallKind) (q : Span) → Fits rs (raw p F C A w) s → n.at ≡ at → at < rows_most
          → kind ≡ k → place ≡ q → Tied (raw p F' C A w) (call_site n k q s)
      site_tied n k q f e h a b = rw (e, ← a, ← b) (tied_insert f.tied f.good.rows at h _ stores)

      pub called_by_name : {tail own : Bool} {k : ℕ} → (nth rs r).form ≡ 1 → TellsSelf r p F own → kind ≡ call_kind tail own k
          → place ≡ span_of (nth rs r) → MakesCall rs at tail k p F F'
      called_by_name {tail} {own} {k} one t ek ep = record {
        is = λ N C A w s n h es a f.
            let c = call_parts a in
            let i = ident_of_lem (head_at a) one in
            let e : kind ≡ call_kind tail (is_self s i.x) k = ek ∙ ap (λ (b : Bool). call_kind tail b k) (t.is rs C A w s i.x i.here f) in
            rw (← core_peel h, i.is) (site_tied n _ _ f c.node.here (root a).few e (ep ∙ known-span (known_ident i.name) i.here));
      }

      pub called_else : {tail : Bool} {k : ℕ} → constant_record (nth rs r) ≡ false → ((nth rs r).form ≡ 1 → ⊥) → kind ≡ call_kind tail false k
          → place ≡ span_of (nth rs at) → MakesCall rs at tail k p F F'
      unfolding own
      called_else {tail} {k} two one ek ep = record {
        is = λ N C A w s n h es a f.
            let c = call_parts a in
            let u = head_at a in
            let d : constant_record (own (peel h)) ≡ false = ap constant_record (sym (root u).is) ∙ two in
            let q : place ≡ node_span n = ep ∙ ap span_of c.node.own.is in
            rw (reached h d)
            (go C A w s n (peel h) (λ z. one (root_form u ∙ z)) d (site_tied n (call_kind tail false k) (node_span n) f c.node.here (root a).few ek q));
      }
        where
          go : (C A w : List ℕ) (s : State) (n : Node) (h : Tree) → ((own h).form ≡ 1 → ⊥) → constant_record (own h) ≡ false
              → Tied (raw p F' C A w) (call_site n (call_kind tail false k) (node_span n) s) → Tied (raw p F' C A w) (call_fact h n tail k s)
          go C A w s n (ident x) a b t = absurd (a refl)
          go C A w s n (const m q) a b t = absurd (true≢false b)
          go C A w s n (if m x y z) a b t = t
          go C A w s n (letin m xs es y) a b t = t
          go C A w s n (define m x y) a b t = t
          go C A w s n (lambda m xs y) a b t = t
          go C A w s n (sequence m es) a b t = t
          go C A w s n (call m h es) a b t = t
          go C A w s n (set! m x e) a b t = t

    pub called_const : {tail : Bool} {k : ℕ} → constant_record (nth rs r) ≡ true → MakesCall rs at tail k p F F
    unfolding own
    called_const {tail} {k} two = record {
      is = λ N C A w s n h es a f.
          rw (← core_peel h) (go C A w s n (peel h) (ap constant_record (sym (root (head_at a)).is) ∙ two) f.tied);
    }
      where
        go : (C A w : List ℕ) (s : State) (n : Node) (u : Tree) → constant_record (own u) ≡ true → Tied (raw p F C A w) s → Tied (raw p F C A w) (call_fact (core u) n tail k s)
        go C A w s n (ident x) e t = absurd (true≢false (sym e))
        go C A w s n (const m q) e t = t
        go C A w s n (if m x y z) e t = absurd (true≢false (sym e))
        go C A w s n (letin m xs es y) e t = absurd (true≢false (sym e))
        go C A w s n (define m x y) e t = absurd (true≢false (sym e))
        go C A w s n (lambda m xs y) e t = absurd (true≢false (sym e))
        go C A w s n (sequence (begins m) es) e t = absurd (true≢false (sym e))
        go C A w s n (sequence (ands m) nil) e t = t
        go C A w s n (sequence (ands m) (cons u us)) e t = absurd (true≢false (sym e ∙ ne_eqb (suc (many us)) 0 (λ z. omega arith)))
        go C A w s n (sequence (whens true m) es) e t = absurd (true≢false (sym e))
        go C A w s n (sequence (whens false m) es) e t = absurd (true≢false (sym e))
        go C A w s n (call m h es) e t = absurd (true≢false (sym e))
        go C A w s n (set! m x y) e t = absurd (true≢false (sym e))
