-- Counts that are the same up to a cap, or one at most the other, over bodies that are so: of bodies that a guard counts as too
-- many nothing is asked, where the guard counts few enough.
use Rattle.std.proofs.Common.{◌≡◌, refl, sym, ap, ◌∙◌, subst, arith, ℕ, zero, suc, ◌+◌, ◌*◌, ◌≤◌, ◌<◌, min, mul-le-mul_left, Bool, true, false, List, [], ◌∷◌}
use Rattle.std.specs.Prelude.{if◌then◌else◌, nat_lt}
use Rattle.vl_base.specs.declared.bits.UnOp.TheVariants.{LogNot}
use Rattle.vl_base.specs.declared.files.File.{File}
use Rattle.vl_base.specs.declared.place.Place.{Place}
use Rattle.vl_base.specs.Places.{same_place}
use Rattle.vl_design.specs.Calls.{task_of}
use Rattle.vl_design.specs.Cost.{over_turns}
use Rattle.vl_design.specs.Exec.{exec, goes_on, turns, most_turns}
use Rattle.vl_design.specs.Placed as p
use Rattle.vl_design.specs.Plain.{plain_scope}
use Rattle.vl_design.specs.Plainly as plain
use Rattle.vl_design.specs.State.{State}
use Rattle.vl_design.specs.Syntax.{Exp, Num, Label, Sig, Word, Pick, Slice, Un, Bin, Cond, Cat, Rep, Cast, Call, Time, LastAnswer, Exps, NoExps, MoreExps, Target, Whole, WordAt, PickAt, SliceAt, Several, Targets, NoTargets, MoreTargets, Piece, Literal, Shown, Task, Print, Finish, Save, Fopen, Fread, Fgetc, Feof, Fclose, ReadHex, Row, Fun}
use Rattle.vl_design.specs.Width.{Scope}
use Rattle.vl_loops.specs.Limits.{Counted, exp_count, exps_count, target_count, targets_count, pieces_count, task_count, call_count, whole_count, else_count, stm_count, stms_count, items_count}
use Rattle.vl_loops.proofs.Closing.{next}
use Rattle.vl_loops.specs.Loops.{HasHeads, HaveHeads, ItemsHaveHeads}
use Rattle.vl_loops.proofs.Loops.{Meets, goes_same_bare, step_meets_bare, head_assigns}
use Rattle.vl_limits.proofs.Counting.{product-capped}

-- the same up to a cap
abbrev pub Same : ℕ → ℕ → ℕ → Type 0
Same cap a b = min cap a ≡ min cap b

pub both : (cap a a' b b' : ℕ) → Same cap a a' → Same cap b b' → Same cap (a + b) (a' + b')
both cap a a' b b' h k = omega arith

pub times : (cap n a a' : ℕ) → Same cap a a' → Same cap (n * a) (n * a')
times cap n a a' h = sym (product-capped cap n a) ∙ (ap (λ z. min cap (n * z)) h ∙ product-capped cap n a')

-- what sums and products keep
pub record Keeps (R : ℕ → ℕ → Type 0) : Type 0 where
  pub same : (n : ℕ) → R n n
  pub sum : (a a' b b' : ℕ) → R a a' → R b b' → R (a + b) (a' + b')
  pub product : (n a a' : ℕ) → R a a' → R (n * a) (n * a')

pub sames : (cap : ℕ) → Keeps (Same cap)
sames cap = record { same = λ n. refl; sum = both cap; product = times cap }

-- at most the other up to a cap
abbrev pub Less : ℕ → ℕ → ℕ → Type 0
Less cap a b = min cap a ≤ min cap b

less-product : (cap n a a' : ℕ) → Less cap a a' → Less cap (n * a) (n * a')
less-product cap n a a' h =
    let p = product-capped cap n a in
    let q = product-capped cap n a' in
    by (n * min cap a) (n * min cap a') (n * a) (n * a') p q (mul-le-mul_left n h)
  where
    by : (x y u v : ℕ) → min cap x ≡ min cap u → min cap y ≡ min cap v → x ≤ y → min cap u ≤ min cap v
    by x y u v p q r = omega arith

pub lesses : (cap : ℕ) → Keeps (Less cap)
lesses cap = record { same = λ n. omega arith; sum = λ a a' b b' h k. omega arith; product = less-product cap }

left-few : (a b m : ℕ) → a + b < m → a < m
left-few a b m h = omega arith

right-few : (a b m : ℕ) → a + b < m → b < m
right-few a b m h = omega arith

once-few : (n a m : ℕ) → suc n * a < m → a < m
once-few n a m h = omega arith

-- so much for statements, endless loops, nodes and bodies
abbrev pub counted : ℕ → ℕ → ℕ → (ℕ → ℕ) → Counted
counted statement endless node body = record { statement = statement; endless = endless; node = node; body = body }

module _ (R : ℕ → ℕ → Type 0) (keeps : Keeps R) (m statement endless node : ℕ) (body body' : ℕ → ℕ) (g : Counted) (alike : (f : ℕ) → g.body f < m → R (body f) (body' f)) where
  abbrev c : Counted
  c = counted statement endless node body

  abbrev c' : Counted
  c' = counted statement endless node body'

  mutual
    exp_alike : (e : Exp) → exp_count g e < m → R (exp_count c e) (exp_count c' e)
    exp_alike (Num v w s) h = keeps.same _
    exp_alike (Label v care w s) h = keeps.same _
    exp_alike (Sig k) h = keeps.same _
    exp_alike (Word n a) h = keeps.sum node node _ _ (keeps.same _) (keeps.sum node node _ _ (keeps.same _) (exp_alike a (right-few g.node _ m (right-few g.node _ m h))))
    exp_alike (Pick b i from w) h = let t = right-few g.node _ m h in keeps.sum node node _ _ (keeps.same _) (keeps.sum _ _ _ _ (exp_alike b (left-few _ (exp_count g i) m t)) (exp_alike i (right-few (exp_count g b) _ m t)))
    exp_alike (Slice b low w) h = keeps.sum node node _ _ (keeps.same _) (exp_alike b (right-few g.node _ m h))
    exp_alike (Un op a) h = keeps.sum node node _ _ (keeps.same _) (exp_alike a (right-few g.node _ m h))
    exp_alike (Bin op a b) h = let t = right-few g.node _ m h in keeps.sum node node _ _ (keeps.same _) (keeps.sum _ _ _ _ (exp_alike a (left-few _ (exp_count g b) m t)) (exp_alike b (right-few (exp_count g a) _ m t)))
    exp_alike (Cond u a b) h =
        let t = right-few g.node _ m h in
        let r = right-few (exp_count g u) _ m t in
        keeps.sum node node _ _ (keeps.same _) (keeps.sum _ _ _ _ (exp_alike u (left-few _ (exp_count g a + exp_count g b) m t)) (keeps.sum _ _ _ _ (exp_alike a (left-few _ (exp_count g b) m r)) (exp_alike b (right-few (exp_count g a) _ m r))))
    exp_alike (Cat es) h = keeps.sum node node _ _ (keeps.same _) (exps_alike es (right-few g.node _ m h))
    exp_alike (Rep n es) h = keeps.sum node node _ _ (keeps.same _) (exps_alike es (right-few g.node _ m h))
    exp_alike (Cast s a) h = exp_alike a h
    exp_alike (Call f es) h = let t = right-few g.node _ m h in keeps.sum node node _ _ (keeps.same _) (keeps.sum _ _ _ _ (exps_alike es (left-few _ (g.body f) m t)) (alike f (right-few (exps_count g es) _ m t)))
    exp_alike Time h = keeps.same _
    exp_alike LastAnswer h = keeps.same _

    exps_alike : (es : Exps) → exps_count g es < m → R (exps_count c es) (exps_count c' es)
    exps_alike NoExps h = keeps.same _
    exps_alike (MoreExps e es) h = keeps.sum _ _ _ _ (exp_alike e (left-few _ (exps_count g es) m h)) (exps_alike es (right-few (exp_count g e) _ m h))

  mutual
    target_alike : (t : Target) → target_count g t < m → R (target_count c t) (target_count c' t)
    target_alike (Whole k) h = keeps.same _
    target_alike (WordAt n a) h = exp_alike a h
    target_alike (PickAt b i from w) h = keeps.sum _ _ _ _ (target_alike b (left-few _ (exp_count g i) m h)) (exp_alike i (right-few (target_count g b) _ m h))
    target_alike (SliceAt b low w) h = target_alike b h
    target_alike (Several ts) h = targets_alike ts h

    targets_alike : (ts : Targets) → targets_count g ts < m → R (targets_count c ts) (targets_count c' ts)
    targets_alike NoTargets h = keeps.same _
    targets_alike (MoreTargets t ts) h = keeps.sum _ _ _ _ (target_alike t (left-few _ (targets_count g ts) m h)) (targets_alike ts (right-few (target_count g t) _ m h))

  pieces_alike : (ps : List Piece) → pieces_count g ps < m → R (pieces_count c ps) (pieces_count c' ps)
  pieces_alike [] h = keeps.same _
  pieces_alike (Literal text ∷ ps) h = pieces_alike ps h
  pieces_alike (Shown format e ∷ ps) h = keeps.sum _ _ _ _ (exp_alike e (left-few _ (pieces_count g ps) m h)) (pieces_alike ps (right-few (exp_count g e) _ m h))

  task_alike : (t : Task) → task_count g t < m → R (task_count c t) (task_count c' t)
  task_alike (Print ps newline) h = pieces_alike ps h
  task_alike (Finish es) h = exps_alike es h
  task_alike (Save name) h = keeps.same _
  task_alike (Fopen name) h = keeps.same _
  task_alike (Fread k fd) h = keeps.sum node node _ _ (keeps.same _) (exp_alike fd (right-few g.node _ m h))
  task_alike (Fgetc fd) h = exp_alike fd h
  task_alike (Feof fd) h = exp_alike fd h
  task_alike (Fclose fd) h = exp_alike fd h
  task_alike (ReadHex name n) h = keeps.same _

  call_alike : (e : p.Exp) → call_count g e < m → R (call_count c e) (call_count c' e)
  call_alike (p.Sys at name given) h = task_alike (task_of [] name (plain.args given)) h
  call_alike (p.Un at LogNot (p.Sys q name given)) h = task_alike (task_of [] name (plain.args given)) h
  call_alike e h = keeps.same _

  whole_alike : (e : p.Exp) → whole_count g e < m → R (whole_count c e) (whole_count c' e)
  whole_alike e h = keeps.sum _ _ _ _ (call_alike e (left-few _ (exp_count g (plain.exp e)) m h)) (exp_alike (plain.exp e) (right-few (call_count g e) _ m h))

  else_alike : (at : Place) (a : p.Stm) (n x x' : ℕ) → else_count g at a n < m → (n < m → R x x') → R (else_count c at a x) (else_count c' at a x')
  else_alike at (p.Nop q) n x x' h k = by (same_place at q) h
    where
      by : (b : Bool) → (if b then 0 else n) < m → R (if b then 0 else x) (if b then 0 else x')
      by true h = keeps.same _
      by false h = k h
  else_alike at (p.Seq q as') n x x' h k = k h
  else_alike at (p.If q t a b) n x x' h k = k h
  else_alike at (p.Case q y is wild) n x x' h k = k h
  else_alike at (p.For q j start test step a) n x x' h k = k h
  else_alike at (p.Repeat q i a) n x x' h k = k h
  else_alike at (p.Set q t y) n x x' h k = k h
  else_alike at (p.Later q t y) n x x' h k = k h
  else_alike at (p.Task q name given) n x x' h k = k h

  -- ---- loops

  module _ (rows signals : List Row) (funs : List Fun) (files : List File) (call : ℕ → List ℕ → ℕ) where
    abbrev full : Scope
    full = next (plain_scope rows) signals funs files call

    abbrev bare : Scope
    bare = plain_scope rows

    module _ (t t' : State → Bool) (u u' : State → State) (same : (x s : State) → Meets rows x s → t x ≡ t' s) (stays : (x s : State) → Meets rows x s → Meets rows (u x) (u' s)) where
      ends_alike : (n : ℕ) (x s : State) → Meets rows x s → Meets rows (turns n t u x) (turns n t' u' s)
      ends_alike zero x s h = h
      ends_alike (suc n) x s h = at (t x) (t' s) (same x s h) (ends_alike n (u x) (u' s) (stays x s h))
        where
          at : (b d : Bool) → b ≡ d → Meets rows (turns n t u (u x)) (turns n t' u' (u' s)) → Meets rows (elim b [ true ↦ turns n t u (u x) | false ↦ x ]) (elim d [ true ↦ turns n t' u' (u' s) | false ↦ s ])
          at true true e k = k
          at false false e k = h
          at true false e k = let z : ⊥ = cc in absurd z
          at false true e k = let z : ⊥ = cc in absurd z

      turns_alike : (f w w' : State → ℕ) → ((x s : State) → Meets rows x s → f x < m → R (w x) (w' s)) → (n : ℕ) (x s : State) → Meets rows x s → over_turns n t u f x < m → R (over_turns n t u w x) (over_turns n t' u' w' s)
      turns_alike f w w' k zero x s h i = keeps.same _
      turns_alike f w w' k (suc n) x s h i = at (t x) (t' s) (same x s h) (λ q. turns_alike f w w' k n (u x) (u' s) (stays x s h) q) i
        where
          at : (b d : Bool) → b ≡ d → (over_turns n t u f (u x) < m → R (over_turns n t u w (u x)) (over_turns n t' u' w' (u' s))) → (elim b [ true ↦ f x + over_turns n t u f (u x) | false ↦ 0 ]) < m →
              R (elim b [ true ↦ w x + over_turns n t u w (u x) | false ↦ 0 ]) (elim d [ true ↦ w' s + over_turns n t' u' w' (u' s) | false ↦ 0 ])
          at true true e rest i = keeps.sum _ _ _ _ (k x s h (left-few _ (over_turns n t u f (u x)) m i)) (rest (right-few (f x) _ m i))
          at false false e rest i = keeps.same _
          at true false e rest i = let z : ⊥ = cc in absurd z
          at false true e rest i = let z : ⊥ = cc in absurd z

    endless_alike : (b d : Bool) → b ≡ d → R (if b then endless else 0) (if d then endless else 0)
    endless_alike b d h = subst (λ z. R (if b then endless else 0) (if z then endless else 0)) h (keeps.same _)

    repeat_alike : (n i x x' : ℕ) → n * i < m → (i < m → R x x') → R (n * x) (n * x')
    repeat_alike zero i x x' h k = let e : zero * x ≡ zero * x' = omega arith in subst (λ z. R (zero * x) z) e (keeps.same _)
    repeat_alike (suc n) i x x' h k = keeps.product (suc n) x x' (k (once-few n i m h))

    mutual
      pub stm_alike : (a : p.Stm) → HasHeads rows a → (x s : State) → Meets rows x s → stm_count g full a x < m → R (stm_count c full a x) (stm_count c' bare a s)
      stm_alike (p.Nop at) l x s h i = keeps.same _
      stm_alike (p.Seq at as') l x s h i = keeps.sum statement statement _ _ (keeps.same _) (stms_alike as' l x s h (right-few g.statement _ m i))
      stm_alike (p.If at t a b) l x s h i =
          let o = right-few g.statement _ m i in
          let r = right-few (whole_count g t) _ m o in
          keeps.sum statement statement _ _ (keeps.same _) (keeps.sum _ _ _ _ (whole_alike t (left-few _ (stm_count g full a x + else_count g at b (stm_count g full b x)) m o))
          (keeps.sum _ _ _ _ (stm_alike a l.0 x s h (left-few _ (else_count g at b (stm_count g full b x)) m r))
          (else_alike at b (stm_count g full b x) _ _ (right-few (stm_count g full a x) _ m r) (stm_alike b l.1 x s h))))
      stm_alike (p.Case at e is wild) l x s h i =
          let o = right-few g.statement _ m i in
          keeps.sum statement statement _ _ (keeps.same _) (keeps.sum _ _ _ _ (exp_alike (plain.exp e) (left-few _ (items_count g full is x) m o)) (items_alike is l x s h (right-few (exp_count g (plain.exp e)) _ m o)))
      stm_alike (p.For at j start test step a) l x s h i =
          let k = l.0 in
          let t = goes_on full (plain.exp test) in
          let u = exec full (plain.stm [] step) in
          let t' = goes_on bare (plain.exp test) in
          let u' = exec bare (plain.stm [] step) in
          let y = exec full (plain.stm [] start) x in
          let r = exec bare (plain.stm [] start) s in
          let b = step_meets_bare rows signals funs files call j (plain.stm [] start) (head_assigns rows j start k.starts) x s h in
          let same = goes_same_bare rows signals funs files call (plain.exp test) k.constant in
          let stays = step_meets_bare rows signals funs files call j (plain.stm [] step) (head_assigns rows j step k.steps) in
          let o = right-few g.statement _ m i in
          let q = right-few (if t (turns most_turns t u y) then g.endless else 0) _ m o in
          keeps.sum statement statement _ _ (keeps.same _) (keeps.sum _ _ _ _
          (endless_alike (t (turns most_turns t u y)) (t' (turns most_turns t' u' r)) (same (turns most_turns t u y) (turns most_turns t' u' r) (ends_alike t t' u u' same stays most_turns y r b)))
          (turns_alike t t' u u' same stays (stm_count g full a) (stm_count c full a) (stm_count c' bare a) (stm_alike a l.1) most_turns y r b q))
      stm_alike (p.Repeat at n a) l x s h i =
          let o = right-few g.statement _ m i in
          keeps.sum statement statement _ _ (keeps.same _) (keeps.sum (if nat_lt most_turns n then endless else 0) (if nat_lt most_turns n then endless else 0) _ _ (keeps.same _)
          (repeat_alike n (stm_count g full a x) _ _ (right-few (if nat_lt most_turns n then g.endless else 0) _ m o) (stm_alike a l x s h)))
      stm_alike (p.Set at t e) l x s h i =
          let o = right-few g.statement _ m i in
          keeps.sum statement statement _ _ (keeps.same _) (keeps.sum _ _ _ _ (whole_alike e (left-few _ (target_count g (plain.target t)) m o)) (target_alike (plain.target t) (right-few (whole_count g e) _ m o)))
      stm_alike (p.Later at t e) l x s h i =
          let o = right-few g.statement _ m i in
          keeps.sum statement statement _ _ (keeps.same _) (keeps.sum _ _ _ _ (whole_alike e (left-few _ (target_count g (plain.target t)) m o)) (target_alike (plain.target t) (right-few (whole_count g e) _ m o)))
      stm_alike (p.Task at name given) l x s h i = keeps.sum statement statement _ _ (keeps.same _) (task_alike (task_of [] name (plain.args given)) (right-few g.statement _ m i))

      stms_alike : (as' : p.Stms) → HaveHeads rows as' → (x s : State) → Meets rows x s → stms_count g full as' x < m → R (stms_count c full as' x) (stms_count c' bare as' s)
      stms_alike p.NoStms l x s h i = keeps.same _
      stms_alike (p.MoreStms a as') l x s h i = keeps.sum _ _ _ _ (stm_alike a l.0 x s h (left-few _ (stms_count g full as' x) m i)) (stms_alike as' l.1 x s h (right-few (stm_count g full a x) _ m i))

      items_alike : (is : p.Items) → ItemsHaveHeads rows is → (x s : State) → Meets rows x s → items_count g full is x < m → R (items_count c full is x) (items_count c' bare is s)
      items_alike p.NoItems l x s h i = keeps.same _
      items_alike (p.MoreItems es a others) l x s h i =
          let o = right-few (exps_count g (plain.exps es)) _ m i in
          keeps.sum _ _ _ _ (exps_alike (plain.exps es) (left-few _ (stm_count g full a x + items_count g full others x) m i))
          (keeps.sum _ _ _ _ (stm_alike a l.0 x s h (left-few _ (items_count g full others x) m o)) (items_alike others l.1 x s h (right-few (stm_count g full a x) _ m o)))
