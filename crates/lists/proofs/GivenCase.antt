-- What live names give to the list of a lambda that ends, row by row. No place of the code stands here.
use Rattle.std.specs.Prelude.{Option, None, is_some}
use Prim.Native.Nat.{ℕ, ◌+◌, ◌≤◌, ◌<◌}
use mathlib.Core.List.{List, [], map}
use mathlib.Core.Bool.{Bool, true, false, cond, not}
use mathlib.Core.Path.{◌≡◌, refl, ap, sym, ◌∙◌}
use native.Mathlib.Omega.{arith}
use borrow.Author.Tests.{le-ltb, lt-ltb}
use lib.ListN.{length, get_or}
use lib.Dec.{ltb}
use Rattle.tree.specs.Tree.{Ident}
use Rattle.tree.specs.Check.{member}
use Rattle.scope_map.specs.ScopeMap.{Live}
use Rattle.scope_map.specs.declared.Row.{Row}
use Rattle.pass.specs.State.{State}
use Rattle.pass.specs.Lists.{captured_in, captured_vars}
use Rattle.pass.specs.Lambda.{name_in}
use Rattle.work.specs.Coded.{record_in}
use Rattle.work.specs.Leaves.{Tells}
use Rattle.work.specs.Scope.{before, TellsLive}
use Rattle.work.specs.declared.Pass.{Pass}
use Rattle.walk.specs.Contract.{HoldsName}
use Rattle.walk.specs.declared.uses.Names.{Names}
use Rattle.lists.specs.Contract.{Told}
use Rattle.lists.specs.Index.{captured_newest, offered, Indexes, Offers}
use Rattle.lists.specs.Given.{given, Gives, CountsCaptured}
use Rattle.lists.specs.Laws.Live.{live_is, Upto, upto_none, all_upto, upto_next}
use Rattle.lists.specs.Laws.Given.{captured_step, indexes_none, with_length}

-- What a name gives

module _ {rs : List ℕ} {n : Names} {p : Pass} {w : List ℕ} {x : ℕ} where
  module _ {b : Bool} (h : HoldsName rs n x b) where
    searched : (q : Option ℕ) → Tells p w (λ s. record_in (cond (not b) (captured_newest s.scope x) None)) q → Offers rs n p w [] x q
    searched q t = record {
      is = λ xs s k works idx.
          t.is s works ∙ ap (λ (c : Bool). record_in (cond (not c) (captured_newest s.scope x) None)) (h.is k.many xs k.stand k.count);
    }

    pub offers_parameter : b ≡ true → Offers rs n p w [] x None
    offers_parameter e = searched None (record { is = λ s k. sym (ap (λ (c : Bool). record_in (cond (not c) (captured_newest s.scope x) None)) e) })

    pub offers_other : b ≡ false → {q r : Option ℕ} → r ≡ q → Tells p w (λ s. record_in (captured_newest s.scope x)) r → Offers rs n p w [] x q
    offers_other e {q} same t =
        searched q (record { is = λ s k. sym same ∙ t.is s k ∙ sym (ap (λ (c : Bool). record_in (cond (not c) (captured_newest s.scope x) None)) e) })

  -- no binder of the name is captured
  pub offers_nothing : {q : Option ℕ} → q ≡ None → Tells p w (λ s. record_in (captured_newest s.scope x)) q
      → Offers rs n p w [] x None
  offers_nothing e t = record { is = λ xs s k works idx. either (member x (map name_in xs)) (captured_newest s.scope x) (sym e ∙ t.is s works) }
    where
      either : (c : Bool) (o : Option Ident) → None ≡ record_in o → None ≡ record_in (cond (not c) o None)
      either true o z = refl
      either false o z = z

  module _ {a : List (Option ℕ)} {q : Option ℕ} where
    -- the index has the name, or has not
    pub offers_told : {y : ℕ} → y ≡ x → y < length a → q ≡ get_or a y None → Offers rs n p w a x q
    offers_told {y} e h k = record {
      is = λ xs s told works idx.
          let z : get_or a y None ≡ record_in (offered (map name_in xs) s.scope x) = ap (λ (j : ℕ). get_or a j None) e ∙ idx x (omega arith) in
          k ∙ z;
    }

    pub offers_searched : Offers rs n p w [] x q → Offers rs n p w a x q
    offers_searched o = record { is = λ xs s told works idx. o.is xs s told works (indexes_none (map name_in xs) s.scope) }

-- What a live name gives, by its layer

module _ {rs : List ℕ} {n : Names} {p : Pass} {w : List ℕ} {a : List (Option ℕ)} {i : ℕ} {r : Row} (t : TellsLive p w i r) where
  pub gives_low : r.layer ≤ 1 → Gives rs n p w a i None
  gives_low h = record {
    is = λ xs s e told works idx up.
        let z : ltb 1 e.layer ≡ false = le-ltb 1 e.layer (omega (arith, (live_is t works up).1)) in
        sym (ap (λ (q : Bool). record_in (cond q (offered (map name_in xs) s.scope e.name) None)) z);
  }

  pub gives-offered : 1 < r.layer → {q : Option ℕ} → Offers rs n p w a r.name q → Gives rs n p w a i q
  gives-offered h o = record {
    is = λ xs s e told works idx up.
        let row = live_is t works up in
        let z : ltb 1 e.layer ≡ true = lt-ltb 1 e.layer (omega (arith, row.1)) in
        o.is xs s told works idx
        ∙ ap (λ (x : ℕ). record_in (offered (map name_in xs) s.scope x)) row.0
        ∙ sym (ap (λ (q : Bool). record_in (cond q (offered (map name_in xs) s.scope e.name) None)) z);
  }

-- The loop that counts: the names before row i have given n entries

abbrev pub CountedTo : List ℕ → Names → List (Option ℕ) → ℕ → State → List (Live Ident) → Type 0
CountedTo rs names a n s l = (xs : List Ident) → Told rs names xs → Indexes a (map name_in xs) s.scope → n ≡ length (captured_in (map name_in xs) s l)

pub count-start : {rs : List ℕ} {names : Names} {p : Pass} {w : List ℕ} (a : List (Option ℕ)) → Upto p w (CountedTo rs names a 0) 0
unfolding captured_in
count-start a = upto_none (λ s works xs k idx. refl)

module _ {rs : List ℕ} {names : Names} {p : Pass} {w : List ℕ} {a : List (Option ℕ)} where
  module _ {n i : ℕ} (u : Upto p w (CountedTo rs names a n) i) where
    pub count_next : {f : Option ℕ} → Gives rs names p w a i f → i < p.scope.length → {b : Bool} → b ≡ is_some f
        → {m : ℕ} → m ≡ n + cond b 1 0 → Upto p w (CountedTo rs names a m) (i + 1)
    count_next g h {b} e {m} q =
        upto_next u h
        (λ s works d up r xs k idx.
        let ps = map name_in xs in
        let l = before i s.scope.names.live in
        q
        ∙ ap (λ (j : ℕ). j + cond b 1 0) (r xs k idx)
        ∙ ap (λ (c : Bool). length (captured_in ps s l) + cond c 1 0) (e ∙ ap is_some (g.is xs s d k works idx up))
        ∙ sym (with_length s.scope (given ps s.scope d) (captured_in ps s l))
        ∙ ap length (sym (captured_step ps s d l)))

    pub count-last : p.scope.length ≤ i → CountsCaptured rs names p w a n
    unfolding captured_vars
    count-last h = record { is = λ xs s k works idx. all_upto u h s works xs k idx }
