-- The parts of a second visit, form by form: a name read or set, a let, a lambda.
use Rattle.std.specs.Prelude.{ℕ, suc, ◌+◌, ◌≤◌, List, [], ◌∷◌, ◌++◌, Bool, true, false, ◌≡◌, length, get_or, Option, None, Some}
use Rattle.std.proofs.Common.{append_assoc, append-nil, ap, sym, subst, ◌∙◌, arith}
use Rattle.tree.specs.Tree.{Ident, Node, Tree, Trees, size, sizes}
use Rattle.scope_map.specs.ScopeMap.{Live}
use Rattle.semantic.specs.Rows.{Row, no_list_entry}
use Rattle.pass.specs.State.{Facts, State, list_entry_at, row_at}
use Rattle.pass_laws.specs.Laws.Rows.{key}
use Rattle.pass.specs.Read.{read, mutate}
use Rattle.pass.specs.Lambda.{at_bottom, open_let, close_let, open_lambda, close_lambda}
use Rattle.pass_laws.specs.Laws.Changes.{Changes, keeps_noted}
use Rattle.pass_laws.specs.Laws.Moves.{Moves, by, ◌⨟◌, moves_noted, out_of_let, out_of_lambda}
use Rattle.pass_laws.specs.Laws.Ranges.{Covers}
use Rattle.pass_laws.specs.Laws.Keeps.{Off, earlier}
use Rattle.pass_laws.specs.Laws.Says.{cell_of, uses_in, uses-entering, Says}
use Rattle.pass_laws.specs.Laws.Onward.{Parts}
use Rattle.pass_laws.specs.Laws.Reads.{Only, read_at}
use Rattle.pass_laws.specs.Laws.Sets.{set_at}
use Rattle.pass_laws.specs.Laws.Forms.{Minus, take-one}
use Rattle.pass_laws.specs.Laws.Idle.{Idle, idle_steps}
use Rattle.pass_laws.specs.Laws.Preserved.{read_preserves, mutate_preserves, open_let_preserves}
use Rattle.r7rs.specs.Binding.{Binder, Place, Use, Event, let_body, lambda_body, let_names, parameters, within, enters, mentions, ends, entering, use_of, walk, meant}
use Rattle.execution.proofs.Laws.Settled.Kept.{LetKept, LambdaKept}
use Rattle.execution.proofs.Laws.Settled.Layer.{Lives}
use Rattle.execution.proofs.Laws.Settled.Again.{Frame, FramedIn, Script, Again}
use Rattle.execution.proofs.Laws.Settled.Told.{tells_append}
use Rattle.execution.proofs.Laws.Settled.Unsaid.{unsaid_steps, close_let_unsaid, close_lambda_unsaid}
use Rattle.execution.proofs.Laws.Settled.Refused.{first_second, ended_second}
use Rattle.execution.proofs.Laws.Settled.Reading.{read_again, read_tells, read_second, mutate-again}
use Rattle.execution.proofs.Laws.Settled.Reentering.{Reentered}
use Rattle.execution.proofs.Laws.Settled.Ending.{key_let}
use Rattle.execution.proofs.Laws.Settled.Refuses.{Above, frame_of, Pending}
use Rattle.execution.proofs.Laws.Settled.Rebodies.{close_let_idle, let_left-again}
use Rattle.execution.proofs.Laws.Settled.Releaving.{mutated_still, offsets_still, left-outside, lambda_left-again}
use Rattle.execution.proofs.Laws.Settled.Bounded.{Early}
use Rattle.execution.proofs.Laws.Settled.Did.{Did}

-- What the first run's rows say of two stretches

pub says_split : (classes : List ℕ) (T : List Row) (c : Ident → Option Ident) (before : List Use) (l r : List Event) → Says classes T c before (l ++ r)
    → Says classes T c before l × Says classes T c (before ++ uses_in l) r
says_split classes T c before [] r s = (tt, rw (append-nil before) s)
says_split classes T c before (enters b sc ∷ l) r s = let q = says_split classes T c before l r s.1 in ((s.0, q.0), q.1)
says_split classes T c before (mentions m ∷ l) r s =
    let u = use_of m (meant m) in
    let q = says_split classes T c (before ++ u) l r s.1 in
    ((s.0, q.0), rw (← append_assoc before u (uses_in l)) q.1)
says_split classes T c before (ends i xs sc ∷ l) r s = says_split classes T c before l r s

pub says_entered : (classes : List ℕ) (T : List Row) (c : Ident → Option Ident) (before : List Use) (bs sc : List Binder) (l : List Event)
    → Says classes T c before (entering bs sc ++ l) → Says classes T c before l
says_entered classes T c before bs sc l s =
    subst (λ (u : List Use). Says classes T c u l) (sym (uses-entering before bs sc)) (says_split classes T c before (entering bs sc) l s).1

pub idle_list-entry : (s t : State) → Idle s t → (r : ℕ) → list_entry_at t r ≡ list_entry_at s r
idle_list-entry s t i r = ap (λ (g : Facts). get_or g.captured r no_list_entry) i

module _ (classes : List ℕ) (S : Script) (bottom : List (Live Ident)) {own : ℕ
    → Type 0} {function : Option Node} {fr : Option Frame} {d : ℕ} {old : Lives} {p : Place} {s : State} where
  -- an identifier that is read, and one that is set

  pub did_read : (before : List Use) (i lo hi : ℕ) (x : Ident) → x.at ≡ i → Covers own i (i + 1) → Early S.U S.G (read_at x p)
      → FramedIn S.C S.G fr p → Says classes S.T (cell_of bottom) before (mentions (read_at x p) ∷ [])
      → Again S own bottom function fr d old p s
      → Did classes S bottom (Minus own i (i + 1)) function fr d old p (mentions (read_at x p) ∷ []) i (i + 1) lo hi s (read classes x s)
  did_read before i lo hi x e c n w q f =
      let o = c x.at (omega arith) (omega arith) in
      record {
        again = read_again classes S x false f w n.inner n.used (take-one i (i + 1) x.at o (omega arith) (omega arith));
        outside = λ r z. idle_list-entry s (read classes x s) (read_preserves idle_steps classes x s) r;
        tells = λ R ag. (read_tells classes S x false f w n.inner R before o q.0 (record { is = ag.at x.at (omega arith) (omega arith) }), tt);
        second = read_second classes S x false f w n.inner;
      }

  pub did_set : (before : List Use) (i lo hi : ℕ) (x : Ident) → x.at ≡ i → Covers own i (i + 1) → Early S.U S.G (set_at x p)
      → FramedIn S.C S.G fr p → Says classes S.T (cell_of bottom) before (mentions (set_at x p) ∷ [])
      → Again S own bottom function fr d old p s
      → Did classes S bottom (Minus own i (i + 1)) function fr d old p (mentions (set_at x p) ∷ []) i (i + 1) lo hi s
      (read classes x (mutate x.name s))
  did_set before i lo hi x e c n w q f =
      let o = c x.at (omega arith) (omega arith) in
      let g = mutate-again S x f n.used in
      record {
        again = read_again classes S x true g w n.inner n.used (take-one i (i + 1) x.at o (omega arith) (omega arith));
        outside = λ r z. idle_list-entry s (read classes x (mutate x.name s)) (read_preserves idle_steps classes x (mutate x.name s) ∙ mutate_preserves idle_steps x.name s) r;
        tells = λ R ag. (read_tells classes S x true g w n.inner R before o q.0 (record { is = ag.at x.at (omega arith) (omega arith) }), tt);
        second = λ v. read_second classes S x true g w n.inner (mutate_preserves unsaid_steps x.name s ∙ v);
      }

-- A let: s is the state before its names enter, u after its body
module _ (classes : List ℕ) (S : Script) (bottom : List (Live Ident)) (own : ℕ
    → Type 0) (function : Option Node) (fr : Option Frame) (d : ℕ) (old : Lives) (p : Place) (s : State)
    (i : ℕ) (n : Node) (xs : List Ident) (es : Trees) (b : Tree) (after : List Use) (lo hi height : ℕ) where
  -- where its names, its initial expressions and its body begin, and where it ends

  abbrev names_at : ℕ
  names_at = i + 1

  abbrev initials_at : ℕ
  initials_at = names_at + length xs

  abbrev body_at : ℕ
  body_at = initials_at + sizes es

  abbrev end : ℕ
  end = body_at + size b

  abbrev body : Place
  body = within (let_names xs p) (let_body (length xs) p)

  pub let_did : {u : State} (opened : Bool) → n.at ≡ i → Covers own i (i + 1) → Covers own names_at initials_at → Covers own body_at end
      → LetKept S.T S.C S.A after n xs
      → opened ≡ at_bottom s → (open_let n xs height function s).noted.nine ≡ None → Again S own bottom function fr d old p s
      → Reentered classes S (cell_of bottom) (let_body (length xs) p) bottom function fr d old (Minus own names_at initials_at) (let_names xs p) p.scope names_at
      (length xs) s
      (open_let n xs height function s)
      → Changes (Off names_at initials_at) (open_let n xs height function s) u
      → Did classes S bottom (Minus (Minus own names_at initials_at) body_at end) function fr d old body (walk b body) body_at end lo hi
      (open_let n xs height function s) u
      → Did classes S bottom (Minus (Minus (Minus own names_at initials_at) body_at end) i (i + 1)) function fr d old p
      (entering (let_names xs p) p.scope ++ walk b body) i end lo hi s
      (close_let opened n xs height function u)
  let_did {u} opened e o₀ o₁ o₂ kept q nine f N past B =
      let t = open_let n xs height function s in
      let v = close_let opened n xs height function u in
      let moves : Moves (Off names_at initials_at) t v = by past ⨟ out_of_let opened n xs height function u (λ l z. omega arith) in
      let parts : Parts (Minus (Minus own names_at initials_at) body_at end) (Only n.at) (Minus (Minus (Minus own names_at initials_at) body_at end) i (i + 1)) =
      record {
        written = λ x z. ((o₀ x (omega arith) (omega arith), λ l y. omega arith), λ l y. omega arith);
        kept = λ x z. z.0;
        apart = λ x z y. z.1
            (omega arith) (omega arith);
      } in
      let here : Minus (Minus own names_at initials_at) body_at end n.at = ((o₀ n.at (omega arith) (omega arith), λ l y. omega arith), λ l y. omega arith) in
      let left = let_left-again S n xs (let_body (length xs) p) (let_names xs p) f parts B.again here.0.0 here after kept opened height function q nine
      (B.again.live ∙ sym N.again.live) in
      let row = key_let (row_at u n.at) (B.again.tables.keys n.at here ∙ ap key kept.is) in
      let out = close_let_idle opened n xs height function kept.info u row in
      let into = open_let_preserves idle_steps n xs height function s in
      record {
        again = left;
        outside = λ r z. idle_list-entry u v out r ∙ B.outside r z ∙ idle_list-entry s t into r;
        tells = λ R ag. tells_append classes S R (cell_of bottom) (entering (let_names xs p) p.scope) (walk b body)
            (N.tells R (earlier ag (omega arith) (omega arith) moves))
            (B.tells R (earlier ag (omega arith) (omega arith) (out_of_let opened n xs height function u (λ l z. omega arith))));
        second = λ e. close_let_unsaid opened n xs height function u
            ∙ first_second S t u (entering (let_names xs p) p.scope) (walk b body) (N.second e) B.second (keeps_noted past);
      }

-- A lambda: s is the state before it, u after its body
module _ (classes : List ℕ) (S : Script) (bottom : List (Live Ident)) (own : ℕ
    → Type 0) (function : Option Node) (fr : Option Frame) (d : ℕ) (old : Lives) (p : Place) (s : State)
    (i : ℕ) (n : Node) (xs : List Ident) (b : Tree) (after : List Use) (lo mid hi : ℕ) where
  abbrev params_at : ℕ
  params_at = i + 1

  abbrev code_at : ℕ
  code_at = params_at + length xs

  abbrev stop : ℕ
  stop = code_at + size b

  abbrev code : Place
  code = within (parameters n xs p) (lambda_body n (length xs) p)

  abbrev frame : Frame
  frame = frame_of fr n mid hi xs p.scope after

  -- the records left after the names, and after the body

  abbrev AfterNames : ℕ → Type 0
  AfterNames x = Minus own i code_at x

  abbrev AfterBody : ℕ → Type 0
  AfterBody = Minus AfterNames code_at stop

  pub lambda_did : {u : State} (escapes : Bool) → n.at ≡ i → Covers own i stop → (kept : LambdaKept S.T S.C S.A mid hi after n xs p.scope)
      → lo ≤ mid → mid ≤ hi → Above hi fr
      → (open_lambda n xs s).noted.nine ≡ None → (f : Again S own bottom function fr d old p s) → Pending S.C mid hi s
      → ((r : ℕ) → Off mid hi r → list_entry_at (open_lambda n xs s) r ≡ list_entry_at s r)
      → Reentered classes S (cell_of bottom) (lambda_body n (length xs) p) bottom (Some n) (Some frame) (suc d) s.captures.live AfterNames
      (parameters n xs p) p.scope params_at (length xs) s
      (open_lambda n xs s)
      → Changes (Off params_at code_at) (open_lambda n xs s) u → Moves own s (close_lambda n xs b escapes u)
      → Did classes S bottom AfterBody (Some n) (Some frame) (suc d) s.captures.live code (walk b code) code_at stop lo mid (open_lambda n xs s) u
      → Did classes S bottom AfterBody function fr d old p (entering (parameters n xs p) p.scope ++ (walk b code ++ (ends n.at xs p.scope ∷ []))) i
      stop lo hi s
      (close_lambda n xs b escapes u)
  lambda_did {u} escapes e o kept h₁ h₂ above nine f pending opened N past whole B =
      let t = open_lambda n xs s in
      let v = close_lambda n xs b escapes u in
      let out = left-outside S n xs (lambda_body n (length xs) p) (parameters n xs p) mid hi after kept f B.again b escapes in
      let outside : (r : ℕ) → Off lo hi r → list_entry_at v r ≡ list_entry_at s r =
      λ r z. out r (λ x y. z (omega arith) y) ∙ B.outside r (λ x y. z x (omega arith)) ∙ opened r (λ x y. z (omega arith) y) in
      let moves : Moves (Off params_at code_at) t v = by past ⨟ out_of_lambda n xs b escapes u (λ l z. omega arith) in
      let left = lambda_left-again S n xs (lambda_body n (length xs) p) (parameters n xs p) mid hi after kept f B.again (λ y z. z)
      (λ y z k. z.0.1 (omega arith) (omega arith)) (λ y z. z.0.0) (o n.at (omega arith) (omega arith)) b escapes nine
      (B.again.live ∙ sym N.again.live) whole (mutated_still S.C fr lo hi s v above outside f.captures.mutated)
      (offsets_still S.C fr lo hi f.captures.top s v above outside f.captures.caught f.captures.offsets) in
      record {
        again = left;
        outside = outside;
        tells = λ R ag. tells_append classes S R (cell_of bottom) (entering (parameters n xs p) p.scope) (walk b code ++ (ends n.at xs p.scope ∷ []))
            (N.tells R (earlier ag (omega arith) (omega arith) moves))
            (tells_append classes S R (cell_of bottom) (walk b code) (ends n.at xs p.scope ∷ [])
            (B.tells R (earlier ag (omega arith) (omega arith) (out_of_lambda n xs b escapes u (λ l z. omega arith)))) tt);
        second = λ e. first_second S t v (entering (parameters n xs p) p.scope) (walk b code ++ (ends n.at xs p.scope ∷ [])) (N.second e)
            (λ m. close_lambda_unsaid n xs b escapes u ∙ B.second m ∙ sym (ended_second S (walk b code) n.at xs p.scope)) (moves_noted moves);
      }
