-- Calls in expressions, one by one.
use Rattle.std.proofs.Common.{◌≡◌, ◌<◌, ◌≤◌, ◌%◌, ◌^◌, ◌+◌, refl, ap, sym, ◌∙◌, ℕ, zero, suc, List, [], ◌∷◌, ◌++◌, append_assoc, append-nil, arith, length, drop, map}
use Rattle.std.specs.Prelude.{slice_get, Some, None, ◌⊎◌}
use Rattle.std.proofs.Common.{inl, inr}
use Rattle.std.proofs.lemmas.List.{at_drop_more, drop_all, length-append, length-map}
use Rattle.std.proofs.lemmas.Option.{none-some, slice_get_within, get_or_from_slice_get}
use Rattle.std.specs.declared.alloc.Global.{Global}
use Rattle.std.specs.declared.vec.Vec.{Vec}
use Rattle.vl_design.specs.declared.design.Expr.{Expr}
use Rattle.vl_design.specs.declared.design.ExprNode as d
use Rattle.vl_design.specs.Syntax.{Exp, Exps, NoExps, MoreExps}
use Rattle.vl_design.specs.Trees.{exp_of, exps_of, fun_of}
use Rattle.std.specs.declared.boxed.Box.{Box}
use Rattle.vl_base.specs.declared.bits.BinOp.{BinOp}
use Rattle.vl_design.specs.declared.design.LowestBit.{LowestBit}
use Rattle.vl_design.specs.declared.design.Func.{Func}
use Rattle.vl_design.specs.Width.{Names, Scope, form, assigned, input_widths}
use Rattle.vl_design.specs.Sound.{IsSoundExp, AreSound, Takes, count_of}
use Rattle.vl_design.specs.Value.{Sample, value, arguments}
use Rattle.vl_eval.specs.Answers.{answers_of, all_answers}
use Rattle.vl_eval.specs.Rooms.{Fit}
use Rattle.vl_eval.proofs.Reading.{arguments-fit}
use Rattle.vl_eval.proofs.Rows.{cat-of, rep-of, call-of, exps-more, first-sound}
use Rattle.vl_eval.proofs.Widths.{form-width, called-there}
use Rattle.vl_run.specs.Scopes.{call_arguments}
pub use Rattle.vl_design.proofs.Shared.{function-there}

-- ---- lists at a place

pub drop-some : (xs : List ℕ) (i x : ℕ) → slice_get xs i ≡ Some x → drop i xs ≡ x ∷ drop (i + 1) xs
drop-some xs i x e = at_drop_more (λ ys. ys) xs i x (slice_get_within xs i x e) ∙ ap (λ y. y ∷ drop (i + 1) xs) (get_or_from_slice_get xs i x x e)

none-past : (xs : List ℕ) (i : ℕ) → slice_get xs i ≡ None → length xs ≤ i
none-past [] i e = omega arith
none-past (x ∷ xs) zero e = absurd (none-some x (sym e))
none-past (x ∷ xs) (suc i) e = let h = none-past xs i e in omega (arith, h)

pub drop-none : (xs : List ℕ) (i : ℕ) → slice_get xs i ≡ None → drop i xs ≡ []
drop-none xs i e = drop_all i xs (none-past xs i e)

-- ---- two and three lists behind another

pub append-two : (o x y m r : List ℕ) → m ≡ o ++ x → r ≡ m ++ y → r ≡ o ++ (x ++ y)
append-two o x y m r h i = i ∙ (ap (λ k. k ++ y) h ∙ append_assoc o x y)

pub append-three : (o x y z m n r : List ℕ) → m ≡ o ++ x → n ≡ m ++ y → r ≡ n ++ z → r ≡ o ++ (x ++ (y ++ z))
append-three o x y z m n r h i j = append-two o x (y ++ z) m r h (append-two m y z n r i j)

-- ---- arguments

pub call-sound : (names : Names) (x : Expr) (f : ℕ) (v : Vec Expr Global) → x.node ≡ d.Call f v → IsSoundExp names (exp_of x) → Takes (slice_get names.funs f) (count_of (exps_of v.items)) × AreSound names (exps_of v.items)
call-sound names x f v h s = let k = rw (call-of x f v h) at s in (k.0, k.2)

module _ (scope : Scope) (s : Sample) where
  none-taken : (es : Exps) → arguments scope s es [] ≡ []
  none-taken NoExps = refl
  none-taken (MoreExps e es) = refl

  -- one argument more
  pub arguments-on : (values widths whole : List ℕ) (e : Exp) (es rest : Exps) (w b v : ℕ) → rest ≡ MoreExps e es → slice_get widths (length values) ≡ Some w
      → b ≡ value scope s e (assigned w (form scope.names e)) → v ≡ b % 2 ^ w
      → values ++ arguments scope s rest (drop (length values) widths) ≡ whole
      → (values ++ v ∷ []) ++ arguments scope s es (drop (length (values ++ v ∷ [])) widths) ≡ whole
  arguments-on values widths whole e es rest w b v i j k l h =
      let d : drop (length values) widths ≡ w ∷ drop (length values + 1) widths = drop-some widths (length values) w j in
      let m : length (values ++ v ∷ []) ≡ length values + 1 = length-append values (v ∷ []) in
      let t = rw (i, d) at h in
      let same : v ≡ value scope s e (assigned w (form scope.names e)) % 2 ^ w = l ∙ ap (λ x. x % 2 ^ w) k in
      rw m (append_assoc values (v ∷ []) (arguments scope s es (drop (length values + 1) widths)) ∙ rw same t)

  -- no input is left
  pub arguments-over : (values widths whole : List ℕ) (rest : Exps) → slice_get widths (length values) ≡ None
      → values ++ arguments scope s rest (drop (length values) widths) ≡ whole → values ≡ whole
  arguments-over values widths whole rest e h =
      let d : drop (length values) widths ≡ [] = drop-none widths (length values) e in
      let t = rw (d, none-taken rest) at h in
      sym (append-nil values) ∙ t

  -- no argument is left
  pub arguments-end : (values widths whole : List ℕ) (rest : Exps) → rest ≡ NoExps
      → values ++ arguments scope s rest widths ≡ whole → values ≡ whole
  arguments-end values widths whole rest e h = let t = rw e at h in sym (append-nil values) ∙ t

  -- ---- answers

  pub listed-answers : (x : Expr) (v : Vec Expr Global) → (x.node ≡ d.Cat v) ⊎ ((n : ℕ) × (x.node ≡ d.Rep n v)) → answers_of scope s (exp_of x) ≡ all_answers scope s (exps_of v.items)
  listed-answers x v (inl h) = ap (answers_of scope s) (cat-of x v h)
  listed-answers x v (inr (n, h)) = ap (answers_of scope s) (rep-of x n v h)

  pub pair-answers : (x : Expr) (a b : Box Expr Global) → ((from : LowestBit) × (w : ℕ) × (x.node ≡ d.Pick a b from w)) ⊎ ((op : BinOp) × (x.node ≡ d.Bin op a b)) → answers_of scope s (exp_of a.value) ++ answers_of scope s (exp_of b.value) ≡ answers_of scope s (exp_of x)
  pair-answers x a b (inl (from, w, h)) = rw h refl
  pair-answers x a b (inr (op, h)) = rw h refl

  pub call-values : (x : Expr) (f : ℕ) (v : Vec Expr Global) → x.node ≡ d.Call f v → call_arguments scope s (exp_of x) ≡ arguments scope s (exps_of v.items) (input_widths scope.names f)
  call-values x f v h = ap (call_arguments scope s) (call-of x f v h)

  pub call-fits : (x : Expr) (f : ℕ) (v : Vec Expr Global) (values : List ℕ) → x.node ≡ d.Call f v → values ≡ call_arguments scope s (exp_of x) → Fit values (input_widths scope.names f)
  call-fits x f v values h e = rw (e ∙ call-values x f v h) (arguments-fit scope s (exps_of v.items) (input_widths scope.names f))

  pub call-answers : (x : Expr) (f : ℕ) (v : Vec Expr Global) (values : List ℕ) (given : ℕ) → x.node ≡ d.Call f v → values ≡ call_arguments scope s (exp_of x) → given ≡ scope.call f values → given ∷ [] ≡ answers_of scope s (exp_of x)
  call-answers x f v values given h e g =
      let k : scope.call f (arguments scope s (exps_of v.items) (input_widths scope.names f)) ∷ [] ≡ answers_of scope s (exp_of x) = sym (ap (answers_of scope s) (call-of x f v h)) in
      rw (g, e ∙ call-values x f v h) k

pub ruleset reading = (exps-more, first-sound, form-width, called-there)
