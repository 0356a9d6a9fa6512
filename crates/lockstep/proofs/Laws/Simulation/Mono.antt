-- What is alike stays alike when the plain machine's store grows, and when a location is written that is another body's own.
use Rattle.std.specs.Prelude.{ℕ, ◌≤◌, ◌<◌, List, ◌++◌, Bool, true, ◌≡◌, length, Option, Some, slice_get}
use Rattle.std.proofs.Common.{arith, length-append}
use Rattle.tree.specs.Tree.{Trees}
use Rattle.r7rs.specs.Machine.{After, Cells}
use Rattle.r7rs.specs.Plain.{Env, PVal, Store, PKont}
use Rattle.semantic.specs.Rows.{Row}
use Rattle.pass_laws.specs.Static.{Ctx}
use Rattle.lockstep.specs.Slot.{SVal, SMem, SKont}
use Rattle.lockstep.proofs.Laws.Simulation.Lists.{at-append}
use Rattle.lockstep.proofs.Laws.Simulation.Relation.{Tag, Alike, a_const, a_unit, a_clo, Names, no_names, keep, skip, AlikeAll, alike_nil, alike_cons, AlikeHand, neither, each, AlikeCells, Held, Waits, w_body, w_if, w_seq, w_and, w_when, w_push, w_head, w_drop, w_set, w_def, Pushing, pushing, Returns, r_end, r_live, r_dead}

module _ (ts : Trees) (T : List Row) (M : ℕ → Bool) where
  -- τ holds what σ holds wherever it may not be set or lies below lim, and locations stay those of the same names
  pub record Grown (lim : ℕ) (σ τ : Store) : Type 0 where
    pub longer : length σ ≤ length τ
    pub kept : (ℓ b : ℕ) (w : PVal) → (M b ≡ true → ℓ < lim) → slice_get σ ℓ ≡ Some (b, w) → slice_get τ ℓ ≡ Some (b, w)
    pub tags : (ℓ b : ℕ) → Tag σ ℓ b → Tag τ ℓ b

  pub grown_append : (lim : ℕ) (σ new : Store) → Grown lim σ (σ ++ new)
  grown_append lim σ new = record {
    longer = omega (arith, length-append σ new);
    kept = λ ℓ b w _ e. at-append σ new ℓ e;
    tags = λ ℓ b t. (t.0, at-append σ new ℓ t.1);
  }

  module _ (lim : ℕ) (σ τ : Store) (g : Grown lim σ τ) where
    mutual
      pub alike : {v : SVal} {w : PVal} → Alike ts T M σ v w → Alike ts T M τ v w
      alike a_const = a_const
      alike a_unit = a_unit
      alike (a_clo Γ d hi l n b ns) = a_clo Γ d hi l n (omega (arith, g.longer)) (names ns (λ ℓ lo u. omega arith))

      pub names : {Fs : List (List SVal)} {d lo hi : ℕ} {Γ : Ctx} {ρ : Env} → Names ts T M σ Fs d lo hi Γ ρ → ((ℓ : ℕ) → lo ≤ ℓ → ℓ < hi → ℓ < lim)
          → Names ts T M τ Fs d lo hi Γ ρ
      names no_names h = no_names
      names (keep x b own r lk a ns) h =
          keep x b own r (g.kept _ _ _ (λ m. h _ (own m).1 b) lk) (alike a) (names ns (λ ℓ l u. h ℓ l (omega arith)))
      names (skip x b t m d ns) h = skip x b (g.tags _ _ t) m d (names ns (λ ℓ l u. h ℓ l (omega arith)))

    pub alike_all : {vs : List SVal} {ws : List PVal} → AlikeAll ts T M σ vs ws → AlikeAll ts T M τ vs ws
    alike_all alike_nil = alike_nil
    alike_all (alike_cons a l) = alike_cons (alike a) (alike_all l)

    pub hand : {v : Option SVal} {w : Option PVal} → AlikeHand ts T M σ v w → AlikeHand ts T M τ v w
    hand neither = neither
    hand (each a) = each (alike a)

    pub cells : {c : SMem} {c' : Cells PVal} → AlikeCells ts T M σ c c' → AlikeCells ts T M τ c c'
    cells r x = hand (r x)

    pub held : {lo hi : ℕ} {Γ : Ctx} {d h : ℕ} {F : List SVal} {C : List (List SVal)} {ρ : Env} → Held ts T M σ lo hi Γ d h F C ρ → hi ≤ lim
        → Held ts T M τ lo hi Γ d h F C ρ
    held r b = record {
      tall = r.tall;
      deep = r.deep;
      layer = r.layer;
      span = r.span;
      scope = r.scope;
      names = names r.names (λ ℓ l u. omega arith);
    }

    mutual
      pub waits : {t : Bool} {Γ : Ctx} {d h lo : ℕ} {F : List SVal} {ρ : Env} {S : List PVal} {sk : SKont} {pk : PKont}
          → Waits ts T M σ t Γ d h lo F ρ S sk pk → lo ≤ lim → Waits ts T M τ t Γ d h lo F ρ S sk pk
      waits (w_body e r) l = w_body e (returns r l)
      waits (w_if b p c q w) l = w_if b p c q (waits w l)
      waits (w_seq s p w) l = w_seq s p (waits w l)
      waits (w_and s p w) l = w_and s p (waits w l)
      waits (w_when s p w) l = w_when s p (waits w l)
      waits (w_push p) l = w_push (pushes p l)
      waits (w_head p) l = w_head (pushes p l)
      waits (w_drop xs n Γ d t s o w) l = w_drop xs n Γ d t s o (waits w l)
      waits (w_set v r a w) l = w_set v r a (waits w l)
      waits (w_def w) l = w_def (waits w l)

      pub pushes : {Γ : Ctx} {d lo : ℕ} {F : List SVal} {ρ : Env} {S : List PVal} {a : After} {n n' : ℕ} {es : Trees} {sk : SKont} {pk : PKont}
          → Pushing ts T M σ Γ d lo F ρ S a n n' es sk pk → lo ≤ lim → Pushing ts T M τ Γ d lo F ρ S a n n' es sk pk
      pushes (pushing h t s vs sc ar p th w) l = pushing h t s (alike_all vs) sc ar p th (waits w l)

      pub returns : {lo : ℕ} {sk : SKont} {pk : PKont} → Returns ts T M σ lo sk pk → lo ≤ lim → Returns ts T M τ lo sk pk
      returns (r_end t p) l = r_end t p
      returns (r_live i dp r w) l = r_live i dp (held r l) (waits w (omega arith))
      returns (r_dead i s t r) l = r_dead i s t (returns r l)
