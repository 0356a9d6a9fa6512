-- How the two machines stand to each other after the same moments: like values, the names of a body, what waits, and whole states.
-- M says of each parameter and let name, by its record, whether a set! may be made of it.
use Rattle.std.specs.Prelude.{ℕ, suc, ◌+◌, ◌-◌, ◌≤◌, ◌<◌, List, [], ◌∷◌, ◌++◌, Bool, true, false, ◌≡◌, length, drop, Option, None, Some, slice_get}
use Rattle.tree.specs.Tree.{Ident, Tree, Trees, nil, cons, many}
use Rattle.tree.specs.Accepted.{All}
use Rattle.tree.specs.Site.{let_layer}
use Rattle.r7rs.specs.Machine.{After, to_head, to_body, Moment, start, entered, read, pushed, kend, kif, kseq, kand, kwhen, kpush, khead, kdrop, kret, kset, kdef, next, ended, stopped, state, Cells, last_n, but_n}
use Rattle.r7rs.specs.Plain.{Env, PVal, pconst, punit, pclo, Store, PBody, PKont, POut, mem, body}
use Rattle.r7rs.specs.Run.{no_body}
use Rattle.semantic.specs.Rows.{Row, Variable}
use Rattle.semantic.specs.declared.SemanticInformation.{SemanticInformation}
use Rattle.pass_laws.specs.Static.{Bound, Ctx, lookup, enter_all, is_cell, Presumption, Aim, Rec, Args, Seq, Top}
use Rattle.lockstep.specs.Facts.{is_tail, row_of}
use Rattle.lockstep.specs.Slot.{SVal, sconst, sunit, sclo, Frames, unpack, SBody, frames, SMem, SKont, SOut}
use Rattle.lockstep.specs.Lock.{idents}
use Rattle.lockstep.proofs.Laws.Simulation.Binders.{Placed, PlacedRising, PlacedAll}
use Rattle.lockstep.proofs.Laws.Simulation.Scope.{Entering, Scope}

-- what demand 3 presumes: a name that a lambda inside reads may not be set, and none is set by a lambda inside
abbrev pub presumed : (ℕ → Bool) → Presumption
presumed M = record { ReadInside = λ x. M x.at ≡ false; SetOwn = λ x. M x.at ≡ true; SetInside = λ x. ⊥ }

-- the value of a name in the frames of depths 2 and up

abbrev pub slot_of : Option (List SVal) → ℕ → Option SVal
slot_of None s = None
slot_of (Some F) s = slice_get F s

abbrev pub read_in : List (List SVal) → Bound → Option SVal
read_in Fs e = slot_of (slice_get Fs (e.depth - 2)) e.slot

-- the location ℓ is one of the name at the record b
abbrev pub Tag : Store → ℕ → ℕ → Type 0
Tag σ ℓ b = (w : PVal) × (slice_get σ ℓ ≡ Some (b, w))

module _ (ts : Trees) (T : List Row) (M : ℕ → Bool) where
  abbrev pub Expr : Ctx → ℕ → ℕ → Bool → Tree → Type 0
  Expr Γ d h t e = Rec T (presumed M) Γ d h t e

  -- a lambda made at depth d in the scope Γ
  pub record Lambda (Γ : Ctx) (d : ℕ) (xs : List Ident) (e : Tree) : Type 0 where
    pub layer : 1 ≤ d
    pub params : Entering ts T (suc d) 0 xs
    pub facts : Expr (enter_all xs (suc d) 0 Γ) (suc d) (length xs) true e
    pub placed : Placed ts T e (length xs)
    pub scope : Scope ts T (suc d) 0 Γ

  -- what n pushed values are for, the first of them at the height h
  pub data Then : Ctx → ℕ → ℕ → Bool → ℕ → After → Type 0 where
    then-head : {Γ : Ctx} {d h : ℕ} {t : Bool} {n i : ℕ} {f : Tree} → Expr Γ d (h + n) false f → Placed ts T f (h + n)
        → (is_tail (row_of T i) ≡ true → t ≡ true) → Then Γ d h t n (to_head i f)
    then-body : {Γ : Ctx} {d h : ℕ} {t : Bool} {n : ℕ} {xs : List Ident} {e : Tree} → n ≡ length xs → Entering ts T (let_layer d) h xs
        → Expr (enter_all xs (let_layer d) h Γ) (let_layer d) (h + length xs) t e → Placed ts T e (h + length xs) → Then Γ d h t n (to_body xs e)

  mutual
    -- like values, in the plain machine's store
    pub data Alike (σ : Store) : SVal → PVal → Type 0 where
      a_const : {c : ℕ} {q : Bool} → Alike σ (sconst c q) (pconst c q)
      a_unit : Alike σ sunit punit
      a_clo : {i : ℕ} {xs : List Ident} {e : Tree} {C : Frames} {ρ : Env} (Γ : Ctx) (d hi : ℕ) → Lambda Γ d xs e → length (unpack C) ≡ d - 1
          → hi ≤ length σ → Names σ (unpack C) (suc d) hi hi Γ ρ → Alike σ (sclo i xs e C) (pclo i xs e ρ)

    -- The names of a body at depth d, in its scope and in its environment. The locations fall, and lie below hi; those of names that may be set lie from
    -- lo on, so that no other call of the same lambda has them. A name of an outer body that may be set is left out: the frame copied with it may be old.
    pub data Names (σ : Store) : List (List SVal) → ℕ → ℕ → ℕ → Ctx → Env → Type 0 where
      no_names : {Fs : List (List SVal)} {d lo hi : ℕ} → Names σ Fs d lo hi [] []
      keep : {Fs : List (List SVal)} {d lo hi : ℕ} {e : Bound} {Γ : Ctx} {p : ℕ × ℕ} {ρ : Env} {v : SVal} {w : PVal}
          → e.binder.name ≡ p.0 → p.1 < hi → (M e.binder.at ≡ true → (e.depth ≡ d) × (lo ≤ p.1))
          → read_in Fs e ≡ Some v → slice_get σ p.1 ≡ Some (e.binder.at, w) → Alike σ v w
          → Names σ Fs d lo p.1 Γ ρ → Names σ Fs d lo hi (e ∷ Γ) (p ∷ ρ)
      skip : {Fs : List (List SVal)} {d lo hi : ℕ} {e : Bound} {Γ : Ctx} {p : ℕ × ℕ} {ρ : Env}
          → e.binder.name ≡ p.0 → p.1 < hi → Tag σ p.1 e.binder.at → M e.binder.at ≡ true → e.depth < d
          → Names σ Fs d lo p.1 Γ ρ → Names σ Fs d lo hi (e ∷ Γ) (p ∷ ρ)

  pub data AlikeAll (σ : Store) : List SVal → List PVal → Type 0 where
    alike_nil : AlikeAll σ [] []
    alike_cons : {v : SVal} {w : PVal} {vs : List SVal} {ws : List PVal} → Alike σ v w → AlikeAll σ vs ws → AlikeAll σ (v ∷ vs) (w ∷ ws)

  pub data AlikeHand (σ : Store) : Option SVal → Option PVal → Type 0 where
    neither : AlikeHand σ None None
    each : {v : SVal} {w : PVal} → Alike σ v w → AlikeHand σ (Some v) (Some w)

  abbrev pub AlikeCells : Store → Cells SVal → Cells PVal → Type 0
  AlikeCells σ c c' = (x : ℕ) → AlikeHand σ (c x) (c' x)

  -- a body that runs or waits, in the scope Γ at depth d and height h: its frame F, the frames C that its lambda copied, and its environment
  pub record Held (σ : Store) (lo hi : ℕ) (Γ : Ctx) (d h : ℕ) (F : List SVal) (C : List (List SVal)) (ρ : Env) : Type 0 where
    pub tall : length F ≡ h
    pub deep : length C ≡ d - 2
    pub layer : 1 ≤ d
    pub span : lo ≤ hi
    pub scope : Scope ts T d h Γ
    pub names : Names σ (C ++ (F ∷ [])) d lo hi Γ ρ

  -- the identifiers of a body at depth d: none that means a name has a fact of a smaller depth
  abbrev pub DeepAt : ℕ → ℕ → Type 0
  DeepAt d i = (v : SemanticInformation) → row_of T i ≡ Variable v → is_cell v.kind ≡ false → 2 ≤ v.depth → d ≤ v.depth

  pub record Deep (d : ℕ) (e : Tree) : Type 0 where
    pub depths : All (DeepAt d) (idents e)

  -- what waits in a body is done but for its lets
  pub data Through : PKont → PKont → Type 0 where
    through_here : {k : PKont} → Through k k
    through_drop : {n : ℕ} {k k' : PKont} → Through k k' → Through (kdrop n k) k'

  mutual
    -- what waits in a body for a value, in the scope Γ at depth d and height h, in tail position if t; F is the frame, S what is pushed on the plain
    -- machine
    pub data Waits (σ : Store) : Bool → Ctx → ℕ → ℕ → ℕ → List SVal → Env → List PVal → SKont → PKont → Type 0 where
      w_body : {t : Bool} {Γ : Ctx} {d h lo : ℕ} {F : List SVal} {ρ : Env} {S : List PVal} {sk : SKont} {pk : PKont}
          → S ≡ [] → Returns σ lo sk pk → Waits σ t Γ d h lo F ρ S sk pk
      w_if : {t : Bool} {Γ : Ctx} {d h lo : ℕ} {F : List SVal} {ρ : Env} {S : List PVal} {sk : SKont} {pk : PKont} {b c : Tree}
          → Expr Γ d h t b → Placed ts T b h → Expr Γ d h t c → Placed ts T c h
          → Waits σ t Γ d h lo F ρ S sk pk → Waits σ false Γ d h lo F ρ S (kif b c sk) (kif b c pk)
      w_seq : {t : Bool} {Γ : Ctx} {d h lo : ℕ} {F : List SVal} {ρ : Env} {S : List PVal} {sk : SKont} {pk : PKont} {e : Tree} {es : Trees}
          → Seq T (presumed M) Γ d h t (cons e es) → PlacedAll ts T (cons e es) h
          → Waits σ t Γ d h lo F ρ S sk pk → Waits σ false Γ d h lo F ρ S (kseq e es sk) (kseq e es pk)
      w_and : {t : Bool} {Γ : Ctx} {d h lo : ℕ} {F : List SVal} {ρ : Env} {S : List PVal} {sk : SKont} {pk : PKont} {e : Tree} {es : Trees}
          → Seq T (presumed M) Γ d h t (cons e es) → PlacedAll ts T (cons e es) h
          → Waits σ t Γ d h lo F ρ S sk pk → Waits σ false Γ d h lo F ρ S (kand e es sk) (kand e es pk)
      w_when : {t q : Bool} {Γ : Ctx} {d h lo : ℕ} {F : List SVal} {ρ : Env} {S : List PVal} {sk : SKont} {pk : PKont} {es : Trees}
          → Seq T (presumed M) Γ d h t es → PlacedAll ts T es h
          → Waits σ t Γ d h lo F ρ S sk pk → Waits σ false Γ d h lo F ρ S (kwhen q es sk) (kwhen q es pk)
      w_push : {Γ : Ctx} {d h lo : ℕ} {F : List SVal} {ρ : Env} {S : List PVal} {sk : SKont} {pk : PKont} {i n : ℕ} {w : After} {es : Trees}
          → Pushing σ Γ d lo F ρ S w n (suc n) es sk pk → Waits σ false Γ d h lo F ρ S (kpush i w n es sk) (kpush i w n es pk)
      w_head : {Γ : Ctx} {d h lo : ℕ} {F : List SVal} {ρ : Env} {S : List PVal} {sk : SKont} {pk : PKont} {i n : ℕ} {f : Tree}
          → Pushing σ Γ d lo F ρ S (to_head i f) n n nil sk pk → Waits σ false Γ d h lo F ρ S (khead i n sk) (khead i n pk)
      w_drop : {t : Bool} {Γ Γ' : Ctx} {d d' h h' lo : ℕ} {F : List SVal} {ρ : Env} {S : List PVal} {sk : SKont} {pk : PKont} {n : ℕ} (xs : List Ident)
          → n ≡ length xs → Γ' ≡ enter_all xs d' h Γ → d' ≡ let_layer d → length F ≡ h + n → Scope ts T d h Γ → 1 ≤ d
          → Waits σ t Γ d h lo (but_n n F) (drop n ρ) S sk pk → Waits σ t Γ' d' h' lo F ρ S (kdrop n sk) (kdrop n pk)
      w_set : {t : Bool} {Γ : Ctx} {d h lo : ℕ} {F : List SVal} {ρ : Env} {S : List PVal} {sk : SKont} {pk : PKont} {x : Ident}
          (v : SemanticInformation) → row_of T x.at ≡ Variable v → Aim T (presumed M) d v (lookup Γ x.name)
          → Waits σ t Γ d h lo F ρ S sk pk → Waits σ false Γ d h lo F ρ S (kset x sk) (kset x pk)
      w_def : {t : Bool} {Γ : Ctx} {d h lo : ℕ} {F : List SVal} {ρ : Env} {S : List PVal} {sk : SKont} {pk : PKont} {x : Ident}
          → Waits σ t Γ d h lo F ρ S sk pk → Waits σ false Γ d h lo F ρ S (kdef x sk) (kdef x pk)

    -- n values are pushed, for w; the first of the expressions left will be the value n'
    pub data Pushing (σ : Store) : Ctx → ℕ → ℕ → List SVal → Env → List PVal → After → ℕ → ℕ → Trees → SKont → PKont → Type 0 where
      pushing : {t : Bool} {Γ : Ctx} {d lo : ℕ} {F : List SVal} {ρ : Env} {S : List PVal} {w : After} {n n' : ℕ} {es : Trees} {sk : SKont} {pk : PKont}
          (h : ℕ) → length F ≡ h + n → n ≤ length S → AlikeAll σ (last_n n F) (last_n n S) → Scope ts T d h Γ
          → Args T (presumed M) Γ d (h + n') es → PlacedRising ts T es (h + n') → Then Γ d h t (n' + many es) w
          → Waits σ t Γ d h lo (but_n n F) ρ (but_n n S) sk pk → Pushing σ Γ d lo F ρ S w n n' es sk pk

    -- what waits where a body's value is given: the top level, a body that made a call, or, after a recorded tail call, what its caller gives to
    pub data Returns (σ : Store) : ℕ → SKont → PKont → Type 0 where
      r_end : {lo : ℕ} {es : Trees} → Top T (presumed M) es → PlacedAll ts T es 0 → Returns σ lo (kend es) (kend es)
      r_live : {t : Bool} {Γ : Ctx} {d h lo hi i : ℕ} {b : SBody} {b' : PBody} {sk : SKont} {pk : PKont}
          → is_tail (row_of T i) ≡ false → Deep d b'.of → Held σ lo hi Γ d h b.frame b.outer b'.env
          → Waits σ t Γ d h lo b.frame b'.env b'.stack sk pk → Returns σ hi (kret i b sk) (kret i b' pk)
      r_dead : {lo i : ℕ} {b : PBody} {sk : SKont} {pk pk' : PKont} → is_tail (row_of T i) ≡ true → b.stack ≡ [] → Through pk pk'
          → Returns σ lo sk pk' → Returns σ lo sk (kret i b pk)

  -- the two machines after the same moment
  pub data Both (σ : Store) : Moment → Option SVal → SBody → SKont → SMem → Option PVal → PBody → PKont → Cells PVal → Type 0 where
    b_start : {es : Trees} {c : SMem} {c' : Cells PVal} → Top T (presumed M) es → PlacedAll ts T es 0 → AlikeCells σ c c'
        → Both σ (start es) None (frames [] []) (kend nil) c None (body no_body [] []) (kend nil) c'
    b_enter : {o e : Tree} {t : Bool} {Γ : Ctx} {d h lo : ℕ} {F : List SVal} {C : List (List SVal)} {ρ : Env} {S : List PVal} {sk : SKont} {pk : PKont}
        {v : Option SVal} {w : Option PVal} {c : SMem} {c' : Cells PVal} → Expr Γ d h t e → Placed ts T e h → Deep d o
        → Held σ lo (length σ) Γ d h F C ρ → Waits σ t Γ d h lo F ρ S sk pk → AlikeHand σ v w → AlikeCells σ c c'
        → Both σ (entered e) v (frames F C) sk c w (body o ρ S) pk c'
    b_read : {o : Tree} {t : Bool} {Γ : Ctx} {d h lo i : ℕ} {F : List SVal} {C : List (List SVal)} {ρ : Env} {S : List PVal} {sk : SKont} {pk : PKont}
        {v : Option SVal} {w : Option PVal} {c : SMem} {c' : Cells PVal} → Deep d o
        → Held σ lo (length σ) Γ d h F C ρ → Waits σ t Γ d h lo F ρ S sk pk → AlikeHand σ v w → AlikeCells σ c c'
        → Both σ (read i) v (frames F C) sk c w (body o ρ S) pk c'
    b_pushed : {o : Tree} {Γ : Ctx} {d h lo i n : ℕ} {F : List SVal} {C : List (List SVal)} {ρ : Env} {S : List PVal} {sk : SKont} {pk : PKont}
        {a : After} {es : Trees} {v : Option SVal} {w : Option PVal} {c : SMem} {c' : Cells PVal} → Deep d o
        → Held σ lo (length σ) Γ d h F C ρ → Pushing σ Γ d lo F ρ S a n n es sk pk → AlikeHand σ v w → AlikeCells σ c c'
        → Both σ (pushed i a n es) v (frames F C) sk c w (body o ρ S) pk c'

  -- what the same try at one more moment comes to
  pub data Same : SOut → POut → Type 0 where
    s_next : {σ : Store} {l : Moment} {v : Option SVal} {b : SBody} {sk : SKont} {c : SMem} {w : Option PVal} {b' : PBody} {pk : PKont} {c' : Cells PVal}
        → Both σ l v b sk c w b' pk c' → Same (next (state l v b sk c)) (next (state l w b' pk (mem σ c')))
    s_ended : {σ : Store} {v : SVal} {w : PVal} {c : SMem} {c' : Cells PVal} → Alike σ v w → AlikeCells σ c c' → Same (ended v c) (ended w (mem σ c'))
    s_stopped : Same stopped stopped
