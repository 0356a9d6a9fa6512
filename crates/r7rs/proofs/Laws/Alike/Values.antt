-- What the plain machine does in its own way keeps values, bodies and memories alike.
use Rattle.std.specs.Prelude.{ℕ, zero, suc, ◌-◌, List, [], ◌∷◌, ◌++◌, map, Bool, true, false, cond, ◌≡◌, refl, length, take, drop, set, eqb, Option, None, Some, option_map, slice_get}
use Rattle.std.proofs.lemmas.List.{map-append, length-map}
use Rattle.std.proofs.Common.{ap, ap₂, sym, ◌∙◌}
use Rattle.std.proofs.Math.Path.{fun_ext}
use Rattle.tree.specs.Tree.{Ident}
use Rattle.tree.specs.Expand.{expand}
use Rattle.r7rs.specs.Machine.{kret, Got, got, missing, astray, fill, in_cell, last_n, but_n}
use Rattle.r7rs.specs.Plain.{Env, PVal, pconst, punit, pclo, Store, PMem, PBody, mem, body, PKont, locate, in_store, pget_at, pput_cell, put_store, pput_at, locations, binds, holds, pis_false, plainly}
use Rattle.r7rs.specs.Steps.{Procedure}
use Rattle.r7rs.specs.Alike.{expand_value, expand_location}

abbrev pub expand_mem : PMem → PMem
expand_mem m = mem (map expand_location m.store) (λ x. option_map expand_value (m.cells x))

abbrev pub expand_body : PBody → PBody
expand_body b = body (expand b.of) b.env (map expand_value b.stack)

module _ {A B : Type 0} (f : A → B) where
  abbrev pub map_got : Got A → Got B
  map_got (got a) = got (f a)
  map_got missing = missing
  map_got astray = astray

  take-map : (n : ℕ) (l : List A) → take n (map f l) ≡ map f (take n l)
  take-map zero l = refl
  take-map (suc n) [] = refl
  take-map (suc n) (a ∷ l) = ap (λ (r : List B). f a ∷ r) (take-map n l)

  drop-map : (n : ℕ) (l : List A) → drop n (map f l) ≡ map f (drop n l)
  drop-map zero l = refl
  drop-map (suc n) [] = refl
  drop-map (suc n) (a ∷ l) = drop-map n l

  last-map : (n : ℕ) (l : List A) → last_n n (map f l) ≡ map f (last_n n l)
  last-map n l = ap (λ (i : ℕ). drop (i - n) (map f l)) (length-map l f) ∙ drop-map (length l - n) l

  but_map : (n : ℕ) (l : List A) → but_n n (map f l) ≡ map f (but_n n l)
  but_map n l = ap (λ (i : ℕ). take (i - n) (map f l)) (length-map l f) ∙ take-map (length l - n) l

  at_map : (l : List A) (i : ℕ) → slice_get (map f l) i ≡ option_map f (slice_get l i)
  at_map [] i = refl
  at_map (a ∷ l) zero = refl
  at_map (a ∷ l) (suc i) = at_map l i

  set-map : (l : List A) (i : ℕ) (a : A) → set (map f l) i (f a) ≡ map f (set l i a)
  set-map [] i a = refl
  set-map (b ∷ l) zero a = refl
  set-map (b ∷ l) (suc i) a = ap (λ (r : List B). f b ∷ r) (set-map l i a)

-- a value and the like value are both false or both not: what holds of equal tests holds of theirs
pub same_test : (P : Bool → Bool → Type 0) → ((q : Bool) → P q q) → (v : PVal) → P (pis_false v) (pis_false (expand_value v))
same_test P f (pconst c q) = f q
same_test P f punit = f false
same_test P f (pclo i xs e ρ) = f false

abbrev pub expand_both : PBody × PMem → PBody × PMem
expand_both p = (expand_body p.0, expand_mem p.1)

-- a value is pushed
pub expand_push : (v : PVal) (b : PBody) → plainly.push (expand_value v) (expand_body b) ≡ expand_body (plainly.push v b)
expand_push v b = ap (body (expand b.of) b.env) (sym (map-append expand_value b.stack (v ∷ [])))

-- Values move into new locations

expand_locations : (xs : List Ident) (ws : List PVal) → locations xs (map expand_value ws) ≡ map expand_location (locations xs ws)
expand_locations [] ws = refl
expand_locations (x ∷ xs) [] = refl
expand_locations (x ∷ xs) (w ∷ ws) = ap (λ (l : Store). (x.at, expand_value w) ∷ l) (expand_locations xs ws)

expand_binds : (xs : List Ident) (ρ : Env) (m : PMem) → binds xs ρ (expand_mem m) ≡ binds xs ρ m
expand_binds xs ρ m = rw (length-map m.store expand_location)

expand_holds : (xs : List Ident) (n : ℕ) (s : List PVal) (m : PMem) → holds xs (last_n n (map expand_value s)) (expand_mem m) ≡ expand_mem (holds xs (last_n n s) m)
expand_holds xs n s m =
    ap (λ (l : Store). mem l (λ x. option_map expand_value (m.cells x)))
    (ap (λ (l : List PVal). map expand_location m.store ++ locations xs l) (last-map expand_value n s)
    ∙ ap (λ (l : Store). map expand_location m.store ++ l) (expand_locations xs (last_n n s))
    ∙ sym (map-append expand_location m.store (locations xs (last_n n s))))

pub expand_bind : (xs : List Ident) (n : ℕ) (b : PBody) (m : PMem) → plainly.bind xs n (expand_body b) (expand_mem m) ≡ expand_both (plainly.bind xs n b m)
expand_bind xs n b m =
    ap₂ (λ (c : PBody) (r : PMem). (c, r))
    (ap₂ (body (expand b.of)) (expand_binds xs b.env m) (but_map expand_value n b.stack))
    (expand_holds xs n b.stack m)

abbrev pub expand_procedure : Procedure Env → Procedure Env
expand_procedure p = record { names = p.names; of = expand p.of; kept = p.kept }

pub expand_callee : (p : Procedure Env) (n : ℕ) (b : PBody) (m : PMem)
    → plainly.callee (expand_procedure p) n (expand_body b) (expand_mem m) ≡ expand_both (plainly.callee p n b m)
expand_callee p n b m =
    ap₂ (λ (ρ : Env) (r : PMem). (body (expand p.of) ρ [], r)) (expand_binds p.names p.kept m) (expand_holds p.names n b.stack m)

pub expand_caller : (i n : ℕ) (b : PBody) (k : PKont)
    → plainly.caller i n (expand_body b) k ≡ kret i (expand_body (body b.of b.env (but_n n b.stack))) k
expand_caller i n b k = ap (λ (s : List PVal). kret i (body (expand b.of) b.env s) k) (but_map expand_value n b.stack)

-- A name is read

cell_got : (o : Option PVal) → in_cell (option_map expand_value o) ≡ map_got expand_value (in_cell o)
cell_got None = refl
cell_got (Some v) = refl

store_got : (o : Option (ℕ × PVal)) → in_store (option_map expand_location o) ≡ map_got expand_value (in_store o)
store_got None = refl
store_got (Some p) = refl

get_at : (o : Option ℕ) (x : ℕ) (m : PMem) → pget_at o x (expand_mem m) ≡ map_got expand_value (pget_at o x m)
get_at None x m = cell_got (m.cells x)
get_at (Some ℓ) x m = ap in_store (at_map expand_location m.store ℓ) ∙ store_got (slice_get m.store ℓ)

pub expand_get : (x : Ident) (b : PBody) (m : PMem) → plainly.get x (expand_body b) (expand_mem m) ≡ map_got expand_value (plainly.get x b m)
expand_get x b m = get_at (locate b.env x.name) x.name m

-- A cell is filled; a name is set

fill-cell : (v : PVal) (o : Option PVal) (q : Bool) → cond q (Some (expand_value v)) (option_map expand_value o) ≡ option_map expand_value (cond q (Some v) o)
fill-cell v o true = refl
fill-cell v o false = refl

fill_cells : (x : ℕ) (v : PVal) (m : PMem)
    → mem (map expand_location m.store) (fill (λ y. option_map expand_value (m.cells y)) x (expand_value v)) ≡ expand_mem (mem m.store (fill m.cells x v))
fill_cells x v m = ap (mem (map expand_location m.store)) (fun_ext (λ y. fill-cell v (m.cells y) (eqb x y)))

pub expand_fill : (x : Ident) (v : PVal) (m : PMem) → plainly.fill x (expand_value v) (expand_mem m) ≡ expand_mem (plainly.fill x v m)
expand_fill x v m = fill_cells x.name v m

put-cell : (o : Option PVal) (x : ℕ) (v : PVal) (b : PBody) (m : PMem)
    → pput_cell (option_map expand_value o) x (expand_value v) (expand_body b) (expand_mem m) ≡ map_got expand_both (pput_cell o x v b m)
put-cell None x v b m = refl
put-cell (Some w) x v b m = ap (λ (r : PMem). got (expand_body b, r)) (fill_cells x v m)

put_store_lem : (o : Option (ℕ × PVal)) (ℓ : ℕ) (v : PVal) (b : PBody) (m : PMem)
    → put_store (option_map expand_location o) ℓ (expand_value v) (expand_body b) (expand_mem m) ≡ map_got expand_both (put_store o ℓ v b m)
put_store_lem None ℓ v b m = refl
put_store_lem (Some p) ℓ v b m =
    ap (λ (l : Store). got (expand_body b, mem l (λ x. option_map expand_value (m.cells x)))) (set-map expand_location m.store ℓ (p.0, v))

put-at : (o : Option ℕ) (x : ℕ) (v : PVal) (b : PBody) (m : PMem)
    → pput_at o x (expand_value v) (expand_body b) (expand_mem m) ≡ map_got expand_both (pput_at o x v b m)
put-at None x v b m = put-cell (m.cells x) x v b m
put-at (Some ℓ) x v b m =
    ap (λ (o : Option (ℕ × PVal)). put_store o ℓ (expand_value v) (expand_body b) (expand_mem m)) (at_map expand_location m.store ℓ)
    ∙ put_store_lem (slice_get m.store ℓ) ℓ v b m

pub expand_put : (x : Ident) (v : PVal) (b : PBody) (m : PMem)
    → plainly.put x (expand_value v) (expand_body b) (expand_mem m) ≡ map_got expand_both (plainly.put x v b m)
expand_put x v b m = put-at (locate b.env x.name) x.name v b m
