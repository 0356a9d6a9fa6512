-- What the relation comes to in the claim's own words: the two machines are in step.
use Rattle.std.specs.Prelude.{ℕ, zero, suc, ◌-◌, ◌<◌, List, [], ◌∷◌, ◌++◌, Bool, true, ◌≡◌, refl, length, Option, Some, slice_get}
use Rattle.std.proofs.lemmas.Option.{same_Some, none-some}
use Rattle.std.proofs.Common.{append_assoc, append-nil, ap, sym, subst, ◌∙◌, arith, take-append-drop}
use mathlib.Core.List.Memᴰ
use mathlib.Core.List.{Memᴰ as Member}
use Rattle.tree.specs.Tree.{Tree, Trees}
use Rattle.r7rs.specs.Binding.{Means}
use Rattle.r7rs.specs.Machine.{After, Moment, waiting, Cells, state, last_n, but_n}
use Rattle.r7rs.specs.Plain.{Env, PVal, Store, PBody, PKont, POut, mem, body}
use Rattle.r7rs.specs.Run.{no_body}
use Rattle.semantic.specs.Rows.{Row}
use Rattle.pass_laws.specs.Static.{Bound, Ctx}
use Rattle.lockstep.specs.Facts.{frame_in, row_of, home_in}
use Rattle.lockstep.specs.Slot.{SVal, Frame, vnil, vcons, Frames, fnil, fcons, pack, unpack_frame, unpack, SBody, SMem, SKont, SOut, frames}
use Rattle.lockstep.specs.Lock.{idents, Asked, EachName, Like, LikeIn, LikeAt, LikeHand, nothing, both, LikeAll, all_nil, all_cons, LikeCells, LikeBody, LikeBodies, no_body_lem, one_more_lem, untailed, pushed_p, pushed_s, pushed_now, InStep, Now, running, over, halted}
use Rattle.lockstep.proofs.Laws.Simulation.Lists.{all-member}
use Rattle.lockstep.proofs.Laws.Simulation.Binders.{slot_at}
use Rattle.lockstep.proofs.Laws.Simulation.Scope.{Housed, Scope, sc_own, sc_outer}
use Rattle.lockstep.proofs.Laws.Simulation.Relation.{Tag, slot_of, read_in, Alike, a_const, a_unit, a_clo, Names, no_names, keep, skip, AlikeAll, alike_nil, alike_cons, AlikeHand, neither, each, AlikeCells, Held, DeepAt, Deep, Through, through_here, through_drop, Waits, w_body, w_if, w_seq, w_and, w_when, w_push, w_head, w_drop, w_set, w_def, Pushing, pushing, Returns, r_end, r_live, r_dead, Both, b_start, b_enter, b_read, b_pushed, Same, s_next, s_ended, s_stopped}
use Rattle.lockstep.proofs.Laws.Simulation.Frames.{unpack-pack}
use Rattle.lockstep.proofs.Laws.Simulation.Depths.{deep_body}
use Rattle.lockstep.proofs.Laws.Simulation.Meant.{Says}

module _ (ts : Trees) (T : List Row) (M : ℕ → Bool) (told : (i b : ℕ) → Means ts i b → Says ts T M i b) where
  module _ (σ : Store) where
    -- a value in packed frames

    like_in : (F : Frame) (s : ℕ) (v : SVal) (w : PVal) → slice_get (unpack_frame F) s ≡ Some v → Like ts T σ v w → LikeIn ts T σ F s w
    like_in vnil s v w e l = absurd (none-some v e)
    like_in (vcons u F) zero v w e l = subst (λ (x : SVal). Like ts T σ x w) (sym (same_Some u v e)) l
    like_in (vcons u F) (suc s) v w e l = like_in F s v w e l

    like_at : (C : Frames) (f s : ℕ) (v : SVal) (w : PVal) → slot_of (slice_get (unpack C) f) s ≡ Some v → Like ts T σ v w → LikeAt ts T σ C f s w
    like_at fnil f s v w e l = absurd (none-some v e)
    like_at (fcons F C) zero s v w e l = like_in F s v w e l
    like_at (fcons F C) (suc f) s v w e l = like_at C f s v w e l

    -- what a location of an environment comes to: the name bound at the record b, whose value is w
    data Place (Fs : List (List SVal)) (d b : ℕ) (w : PVal) : Type 0 where
      is_kept_lem : (e : Bound) (v : SVal) → e.binder.at ≡ b → Housed ts T e → read_in Fs e ≡ Some v → Like ts T σ v w → Place Fs d b w
      is_skipped : (e : Bound) → e.binder.at ≡ b → Housed ts T e → M b ≡ true → e.depth < d → Place Fs d b w

    -- the record tells the frame and the slot
    same_home : {b : ℕ} (e : Bound) (f : ℕ) → e.binder.at ≡ b → Housed ts T e → frame_in (row_of T b) ≡ Some f → (f ≡ e.depth - 2) × (slot_at ts b ≡ e.slot)
    same_home e f q r g = (same_Some f (e.depth - 2) (sym g ∙ rw (← q) r.frame), rw (← q) r.slot)

    -- the names of a body, or of a procedure
    names_like : {Fs : List (List SVal)} {d : ℕ} {e : Tree} {ρ : Env} (C : Frames) → unpack C ≡ Fs → Deep ts T M d e
        → ((p : ℕ × ℕ) → Member p ρ → (b : ℕ) (w : PVal) → slice_get σ p.1 ≡ Some (b, w) → Place Fs d b w)
        → EachName ts T σ e ρ (λ f s w. LikeAt ts T σ C f s w)
    names_like {Fs} {d} C u dp f i b p w m q mp lk = go (told i b q) (all-member (DeepAt ts T M d) m dp.depths) (f p mp b w lk)
      where
        go : Says ts T M i b → DeepAt ts T M d i → Place Fs d b w → Asked (home_in ts T (row_of T i)) (λ f s. LikeAt ts T σ C f s w)
        go s dp (is_kept_lem e v eb r rd l) =
            let (fr, sl) = same_home e s.frame eb r s.frame_is in
            rw (s.is, s.home, fr, sl) (like_at C (e.depth - 2) e.slot v w (rw u rd) l)
        go s dp (is_skipped e eb r mt lt) =
            let (fr, sl) = same_home e s.frame eb r s.frame_is in
            absurd (let l = dp s.fact s.is s.is_name (omega (arith, s.own mt)) in omega (arith, s.own mt, r.two))

    tag_of : {m : Option (ℕ × PVal)} {x y : ℕ × PVal} → m ≡ Some x → m ≡ Some y → x ≡ y
    tag_of {x = x} {y = y} e q = same_Some x y (sym e ∙ q)

    kept_place : {Fs : List (List SVal)} {d : ℕ} {e : Bound} {v : SVal} {w u : PVal} {p p' : ℕ × ℕ} {b : ℕ} → p ≡ p' → slice_get σ p.1 ≡ Some (b, w)
        → slice_get σ p'.1 ≡ Some (e.binder.at, u) → Housed ts T e → read_in Fs e ≡ Some v → Like ts T σ v u → Place Fs d b w
    kept_place {e = e} {v} q lk lk' r rd l =
        let pair = tag_of lk' (rw q at lk) in
        is_kept_lem e v (ap (λ (x : ℕ × PVal). x.0) pair) r rd (subst (Like ts T σ v) (ap (λ (x : ℕ × PVal). x.1) pair) l)

    skip_place : {Fs : List (List SVal)} {d : ℕ} {e : Bound} {w : PVal} {p p' : ℕ × ℕ} {b : ℕ} → p ≡ p' → slice_get σ p.1 ≡ Some (b, w)
        → Tag σ p'.1 e.binder.at → Housed ts T e → M e.binder.at ≡ true → e.depth < d → Place Fs d b w
    skip_place {e = e} q lk (u, lk') r mt lt =
        let eb = ap (λ (x : ℕ × PVal). x.0) (tag_of lk' (rw q at lk)) in
        is_skipped e eb r (rw eb at mt) lt

    mutual
      like : {v : SVal} {w : PVal} → Alike ts T M σ v w → Like ts T σ v w
      like a_const = (refl, refl)
      like a_unit = tt
      like (a_clo {C = C} Γ d hi lam len b ns) =
          (refl, refl, refl, names_like C refl (deep_body ts T M lam.facts) (λ p m c w e. places ns lam.scope p m c w e))

      places : {Fs : List (List SVal)} {d h lo hi : ℕ} {Γ : Ctx} {ρ : Env} → Names ts T M σ Fs d lo hi Γ ρ → Scope ts T d h Γ
          → (p : ℕ × ℕ) → Member p ρ → (b : ℕ) (w : PVal) → slice_get σ p.1 ≡ Some (b, w) → Place Fs d b w
      places (keep n l o rd at a ns) (sc_own r own bd s) p (Member.head q) b w lk = kept_place q lk at r rd (like a)
      places (keep n l o rd at a ns) (sc_own r own bd s) p (Member.tail m) b w lk = places ns s p m b w lk
      places (keep n l o rd at a ns) (sc_outer r out s) p (Member.head q) b w lk = kept_place q lk at r rd (like a)
      places (keep n l o rd at a ns) (sc_outer r out s) p (Member.tail m) b w lk = places ns s p m b w lk
      places (skip n l t mt d ns) (sc_own r own bd s) p m b w lk = absurd (omega arith)
      places (skip n l t mt d ns) (sc_outer r out s) p (Member.head q) b w lk = skip_place q lk t r mt d
      places (skip n l t mt d ns) (sc_outer r out s) p (Member.tail m) b w lk = places ns s p m b w lk
      places no_names s p m b w lk = elim m [ ]

    like_hand : {v : Option SVal} {w : Option PVal} → AlikeHand ts T M σ v w → LikeHand ts T σ v w
    like_hand neither = nothing
    like_hand (each a) = both (like a)

    like_cells : {c : SMem} {c' : Cells PVal} → AlikeCells ts T M σ c c' → LikeCells ts T σ c c'
    like_cells cs x = like_hand (cs x)

    like_body : {lo hi d h : ℕ} {Γ : Ctx} (b : SBody) (b' : PBody) → Deep ts T M d b'.of → Held ts T M σ lo hi Γ d h b.frame b.outer b'.env
        → LikeBody ts T σ b b'
    like_body b b' dp r = names_like (pack (b.outer ++ (b.frame ∷ []))) (unpack-pack _) dp (λ p m c w e. places r.names r.scope p m c w e)

    -- the bodies that wait

    through_waiting : {pk pk' : PKont} → Through ts T M pk pk' → untailed T (waiting pk) ≡ untailed T (waiting pk')
    through_waiting through_here = refl
    through_waiting (through_drop t) = through_waiting t

    mutual
      bodies_wait : {t : Bool} {Γ : Ctx} {d h lo : ℕ} {F : List SVal} {ρ : Env} {S : List PVal} {sk : SKont} {pk : PKont}
          → Waits ts T M σ t Γ d h lo F ρ S sk pk → LikeBodies ts T σ (waiting sk) (untailed T (waiting pk))
      bodies_wait (w_body e r) = bodies_return r
      bodies_wait (w_if b p c q w) = bodies_wait w
      bodies_wait (w_seq s p w) = bodies_wait w
      bodies_wait (w_and s p w) = bodies_wait w
      bodies_wait (w_when s p w) = bodies_wait w
      bodies_wait (w_push p) = bodies_push p
      bodies_wait (w_head p) = bodies_push p
      bodies_wait (w_drop xs n Γ d t s o w) = bodies_wait w
      bodies_wait (w_set v e a w) = bodies_wait w
      bodies_wait (w_def w) = bodies_wait w

      bodies_push : {Γ : Ctx} {d lo : ℕ} {F : List SVal} {ρ : Env} {S : List PVal} {a : After} {n n' : ℕ} {es : Trees} {sk : SKont} {pk : PKont}
          → Pushing ts T M σ Γ d lo F ρ S a n n' es sk pk → LikeBodies ts T σ (waiting sk) (untailed T (waiting pk))
      bodies_push (pushing h t s vs sc ar pl th w) = bodies_wait w

      bodies_return : {lo : ℕ} {sk : SKont} {pk : PKont} → Returns ts T M σ lo sk pk → LikeBodies ts T σ (waiting sk) (untailed T (waiting pk))
      bodies_return (r_end t p) = no_body_lem
      bodies_return (r_live {b = b} {b' = b'} i dp r w) = rw i (one_more_lem (like_body b b' dp r) (bodies_wait w))
      bodies_return (r_dead i s t r) = rw (i, through_waiting t) (bodies_return r)

    -- the pushed values

    like_all : {vs : List SVal} {ws : List PVal} → AlikeAll ts T M σ vs ws → LikeAll ts T σ vs ws
    like_all alike_nil = all_nil
    like_all (alike_cons a l) = all_cons (like a) (like_all l)

    like_append : {vs us : List SVal} {ws xs : List PVal} → LikeAll ts T σ vs ws → LikeAll ts T σ us xs → LikeAll ts T σ (vs ++ us) (ws ++ xs)
    like_append all_nil r = r
    like_append (all_cons a l) r = all_cons a (like_append l r)

    -- what is pushed in a body, put together again
    whole : {vs : List SVal} (ws : List PVal) (n : ℕ) (S : List PVal) → LikeAll ts T σ vs ((ws ++ but_n n S) ++ last_n n S) → LikeAll ts T σ vs (ws ++ S)
    whole {vs} ws n S l = subst (LikeAll ts T σ vs) (append_assoc ws (but_n n S) (last_n n S) ∙ ap (ws ++◌) (take-append-drop (length S - n) S)) l

    through_pushed : {pk pk' : PKont} → Through ts T M pk pk' → pushed_p pk ≡ pushed_p pk'
    through_pushed through_here = refl
    through_pushed (through_drop t) = through_pushed t

    mutual
      pushed_wait : {t : Bool} {Γ : Ctx} {d h lo : ℕ} {F : List SVal} {ρ : Env} {S : List PVal} {sk : SKont} {pk : PKont}
          → Waits ts T M σ t Γ d h lo F ρ S sk pk → LikeAll ts T σ (pushed_s sk F) (pushed_p pk ++ S)
      pushed_wait {F = F} {pk = pk} (w_body e r) = rw (e, append-nil (pushed_p pk)) (pushed_return F r)
      pushed_wait (w_if b p c q w) = pushed_wait w
      pushed_wait (w_seq s p w) = pushed_wait w
      pushed_wait (w_and s p w) = pushed_wait w
      pushed_wait (w_when s p w) = pushed_wait w
      pushed_wait (w_push p) = pushed_push p
      pushed_wait (w_head p) = pushed_push p
      pushed_wait (w_drop xs n Γ d t s o w) = pushed_wait w
      pushed_wait (w_set v e a w) = pushed_wait w
      pushed_wait (w_def w) = pushed_wait w

      pushed_push : {Γ : Ctx} {d lo : ℕ} {F : List SVal} {ρ : Env} {S : List PVal} {a : After} {n n' : ℕ} {es : Trees} {sk : SKont} {pk : PKont}
          → Pushing ts T M σ Γ d lo F ρ S a n n' es sk pk → LikeAll ts T σ (pushed_s sk (but_n n F) ++ last_n n F) (pushed_p pk ++ S)
      pushed_push (pushing {S = S} {n = n} {pk = pk} h t s vs sc ar pl th w) = whole (pushed_p pk) n S (like_append (pushed_wait w) (like_all vs))

      pushed_return : {lo : ℕ} {sk : SKont} {pk : PKont} (F : List SVal) → Returns ts T M σ lo sk pk → LikeAll ts T σ (pushed_s sk F) (pushed_p pk)
      pushed_return F (r_end t p) = all_nil
      pushed_return F (r_live i dp r w) = pushed_wait w
      pushed_return F (r_dead {pk = pk} i s t r) = rw (s, append-nil (pushed_p pk), through_pushed t) (pushed_return F r)

  nothing_named : (σ : Store) → LikeBody ts T σ (frames [] []) (body no_body [] [])
  unfolding idents
  nothing_named σ i b p w m = absurd (Memᴰ.not-nil m)

  -- while a body runs
  runs : {σ : Store} {l : Moment} {lo hi d h : ℕ} {Γ : Ctx} {v : Option SVal} {sk : SKont} {c : SMem} {w : Option PVal} {pk : PKont} {c' : Cells PVal}
      (b : SBody) (b' : PBody) → Deep ts T M d b'.of → Held ts T M σ lo hi Γ d h b.frame b.outer b'.env → AlikeHand ts T M σ v w
      → AlikeCells ts T M σ c c' → LikeAll ts T σ (pushed_now l sk b.frame) (pushed_p pk ++ b'.stack) → LikeBodies ts T σ (waiting sk) (untailed T (waiting pk))
      → InStep ts T (state l v b sk c) (state l w b' pk (mem σ c'))
  runs {σ} b b' dp r hd cs ps bs = record {
    moments = refl;
    hands = like_hand σ hd;
    pushes = ps;
    cells = like_cells σ cs;
    running = like_body σ b b' dp r;
    callers = bs;
  }

  in_step : {σ : Store} {l : Moment} {v : Option SVal} {b : SBody} {sk : SKont} {c : SMem} {w : Option PVal} {b' : PBody} {pk : PKont} {c' : Cells PVal}
      → Both ts T M σ l v b sk c w b' pk c' → InStep ts T (state l v b sk c) (state l w b' pk (mem σ c'))
  in_step {σ} (b_start t p cs) =
      record { moments = refl; hands = nothing; pushes = all_nil; cells = like_cells σ cs; running = nothing_named σ; callers = no_body_lem }
  in_step {σ} {b = b} {b' = b'} (b_enter e pl dp r wt hd cs) = runs b b' dp r hd cs (pushed_wait σ wt) (bodies_wait σ wt)
  in_step {σ} {b = b} {b' = b'} (b_read dp r wt hd cs) = runs b b' dp r hd cs (pushed_wait σ wt) (bodies_wait σ wt)
  in_step {σ} {b = b} {b' = b'} (b_pushed dp r p hd cs) = runs b b' dp r hd cs (pushed_push σ p) (bodies_push σ p)

  pub now : {x : SOut} {y : POut} → Same ts T M x y → Now ts T x y
  now (s_next b) = running (in_step b)
  now (s_ended {σ = σ} a cs) = over (like σ a) (like_cells σ cs)
  now s_stopped = halted
