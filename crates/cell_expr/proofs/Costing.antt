-- Expressions are compiled to at most the cells that they cost.
use Rattle.std.proofs.Common.{◌≡◌, ◌≤◌, ◌+◌, ◌*◌, ℕ, zero, suc, Bool, true, false, arith}
use Rattle.std.specs.Prelude.{if◌then◌else◌}
use Rattle.vl_base.specs.Value.{needs_one_width}
use Rattle.vl_design.specs.Cost.{exp_cells, exps_cells, arguments_cells}
use Rattle.vl_design.specs.Syntax.{Exp, Num, Label, Sig, Word, Pick, Slice, Un, Bin, Cond, Cat, Rep, Cast, Call, Time, LastAnswer, Exps, NoExps, MoreExps}
use Rattle.vl_design.specs.Width.{Names, total_width}
use Rattle.vl_design.specs.Sound.{IsSoundExp, AreSound, IsWidth}
use Rattle.cell_expr.specs.Counts.{unary_spans, binary_spans, pair_count, own_count, exp_count, wide_count, parts_own, parts_wide, rest_count, exps_count}
use Rattle.cell_expr.specs.Slack.{exp_slack, exps_slack, call_slack}

-- cells, and those of an expression that is read for itself, in any context, and extended: where it is extended, and where it is read
-- for itself, there is one to spare
pub record Within (c o u w : ℕ) : Type 0 where
  pub own : o + 1 ≤ c
  pub any : u ≤ c
  pub wide : w + 1 ≤ c

pairs : (c o u d p v : ℕ) → o + 1 ≤ c → u ≤ c → p + 1 ≤ d → v ≤ d → pair_count o u p v + 1 ≤ c + d
pairs c o u d p v h i k j = omega arith

-- an operator that is read in its context
unary : (q : Bool) (c o u : ℕ) → o + 1 ≤ c → u ≤ c → (if q then u else o + 1) + 1 ≤ 2 + c
unary true c o u h k = omega arith
unary false c o u h k = omega arith

-- its operands have one width (q)
own-binary : (q : Bool) (c o u d p v : ℕ) → o + 1 ≤ c → u ≤ c → p + 1 ≤ d → v ≤ d → (if q then pair_count o u p v else o + p) + 1 ≤ c + d
own-binary true c o u d p v h i k j = pairs c o u d p v h i k j
own-binary false c o u d p v h i k j = omega arith

any-binary : (q r : Bool) (c o u d p v : ℕ) → o + 1 ≤ c → u ≤ c → p + 1 ≤ d → v ≤ d →
    (if r then u + (if q then v else p) + 1 else (if q then pair_count o u p v else o + p) + 1 + 1) ≤ 2 + (c + d)
any-binary true true c o u d p v h i k j = omega arith
any-binary false true c o u d p v h i k j = omega arith
any-binary q false c o u d p v h i k j = (let z = own-binary q c o u d p v h i k j in omega arith)

no-parts : (n : ℕ) → 1 ≤ n * 0 → ⊥
no-parts n h = absurd (let e : n * 0 ≡ 0 = omega arith in omega arith)

module _ (names : Names) (body body' slack : ℕ → ℕ) (bodies : (f : ℕ) → body f ≤ body' f + slack f) where
  abbrev pub cells : Exp → ℕ
  cells e = exp_cells body' e + exp_slack slack e

  abbrev pub all_cells : Exps → ℕ
  all_cells es = exps_cells body' es + exps_slack slack es

  abbrev pub Fine : Exp → Type 0
  Fine e = Within (cells e) (own_count body e) (exp_count body e) (wide_count body e)

  -- of parts side by side: those behind the first; all, each read for itself; with the first one extended; and of arguments
  pub record AreFine (es : Exps) : Type 0 where
    rest : rest_count body es ≤ all_cells es
    own : parts_own body es ≤ all_cells es
    wide : 1 ≤ total_width names es → parts_wide body es + 1 ≤ all_cells es
    call : exps_count body es + 3 ≤ arguments_cells body' es + exps_slack slack es + call_slack es
    arguments : exps_count body es ≤ arguments_cells body' es + exps_slack slack es

  fine-rep : (n : ℕ) (es : Exps) → IsWidth (n * total_width names es) → AreFine es → Fine (Rep n es)
  fine-rep n es h k = go (total_width names es) h.wide k.wide
    where
      go : (t : ℕ) → 1 ≤ n * t → (1 ≤ t → parts_wide body es + 1 ≤ all_cells es) → Fine (Rep n es)
      go zero p f = absurd (no-parts n p)
      go (suc t) p f = (let z = f (omega arith) in record { own = omega arith; any = omega arith; wide = omega arith })

  fine-none : AreFine NoExps
  fine-none = record { rest = omega arith; own = omega arith; wide = λ h. absurd (omega arith); call = omega arith; arguments = omega arith }

  fine-more : (e : Exp) (es : Exps) → Fine e → AreFine es → AreFine (MoreExps e es)
  fine-more e es h k =
      let o = h.own in let u = h.any in let w = h.wide in let r = k.rest in let s = k.arguments in
      record { rest = omega arith; own = omega arith; wide = λ p. omega arith; call = omega arith; arguments = omega arith }

  mutual
    pub fine : (e : Exp) → IsSoundExp names e → Fine e
    fine (Num v w s) h = record { own = omega arith; any = omega arith; wide = omega arith }
    fine (Label v care w s) h = record { own = omega arith; any = omega arith; wide = omega arith }
    fine (Sig k) h = record { own = omega arith; any = omega arith; wide = omega arith }
    fine (Word m a) h = (let o = (fine a h.1).own in record { own = omega arith; any = omega arith; wide = omega arith })
    fine (Pick b i from w) h = (let o = (fine b h.1).own in let p = (fine i h.2).own in record { own = omega arith; any = omega arith; wide = omega arith })
    fine (Slice b low w) h = (let o = (fine b h.1).own in record { own = omega arith; any = omega arith; wide = omega arith })
    fine (Un op a) h = (
        let k = fine a h in
        let o = k.own in
        let z = unary (unary_spans op) (cells a) (own_count body a) (exp_count body a) o k.any in record { own = omega arith; any = omega (arith, z); wide = omega arith })
    fine (Bin op a b) h = (
        let k = fine a h.0 in
        let l = fine b h.1 in
        let x = own-binary (needs_one_width op) (cells a) (own_count body a) (exp_count body a) (cells b) (own_count body b) (exp_count body b) k.own k.any l.own l.any in
        let y = any-binary (needs_one_width op) (binary_spans op) (cells a) (own_count body a) (exp_count body a) (cells b) (own_count body b) (exp_count body b) k.own k.any l.own l.any in
        record { own = omega (arith, x); any = omega (arith, y); wide = omega (arith, x) })
    fine (Cond t a b) h = (
        let j = (fine t h.0).own in
        let k = fine a h.1 in
        let l = fine b h.2 in
        let i = k.any in let i' = l.any in
        let x = pairs (cells a) (own_count body a) (exp_count body a) (cells b) (own_count body b) (exp_count body b) k.own k.any l.own l.any in
        record { own = omega (arith, j, x); any = omega (arith, j, i, i'); wide = omega (arith, j, x) })
    fine (Cat es) h = (let o = (all-fine es h.1).own in record { own = omega arith; any = omega arith; wide = omega arith })
    fine (Rep n es) h = fine-rep n es h.0 (all-fine es h.1)
    fine (Cast s a) h = (let k = fine a h in let o = k.own in record { own = k.own; any = omega arith; wide = k.wide })
    fine (Call f es) h = (let i = bodies f in let j = (all-fine es h.2).call in record { own = omega arith; any = omega arith; wide = omega arith })
    fine Time h = record { own = omega arith; any = omega arith; wide = omega arith }
    fine LastAnswer h = record { own = omega arith; any = omega arith; wide = omega arith }

    pub all-fine : (es : Exps) → AreSound names es → AreFine es
    all-fine NoExps h = fine-none
    all-fine (MoreExps e es) h = fine-more e es (fine e h.0) (all-fine es h.1)
