-- Calls of functions (IEEE 1364-2005, clause 10.4.3).
use Rattle.std.proofs.Common.{◌≡◌, ℕ, suc, ◌+◌, ◌≤◌, List, refl, sym, ap, ◌∙◌, arith, subst}
use Rattle.std.specs.Prelude.{slice_get, Option, Some}
use Rattle.std.proofs.Common.{length, get_or}
use Rattle.std.proofs.lemmas.List.{length-map}
use Rattle.vl_base.specs.declared.files.File.{File}
use Rattle.vl_design.specs.declared.design.Func.{Func}
use Rattle.vl_design.specs.Trees.{fun_of, row_of}
use Rattle.vl_eval.specs.declared.room.Room.{Room}
use Rattle.vl_eval.specs.Rooms.{names_of}
use Rattle.vl_eval.proofs.Widths.{called-there}
use Rattle.vl_run.proofs.Bodies.{function-there}
use Rattle.vl_base.specs.Value.{resized}
use Rattle.vl_design.specs.declared.design.Form.{Form}
use Rattle.vl_design.specs.Syntax.{Call, Exps, Fun}
use Rattle.vl_design.specs.Exec.{exec}
use Rattle.vl_design.specs.Functions.{zeros, fresh, with_inputs, result_of, scope_with}
use Rattle.vl_design.specs.Sound.{IsSignal, Takes}
use Rattle.vl_design.specs.State.{State, sample}
use Rattle.vl_design.specs.Value.{Sample, value, value_of, arguments}
use Rattle.vl_design.specs.Width.{Names, Scope, names_in, signal_form, result_form, result_form_of, input_widths_of}
use Rattle.vl_eval.specs.Rooms.{scope_at}
use Rattle.vl_run.specs.Scopes.{calls_in, flat_in}
use Rattle.cell_emit.specs.cell_form.specs.Data.{ListData}
use Rattle.cell_emit.specs.cell_form.specs.Sound.{Shape}
use Rattle.cell_emit.specs.Slots.{held, Gives, Nothing}
use Rattle.cell_emit.proofs.Frames.{longer-grows, longer-then, longer-weaken}
use Rattle.cell_emit.specs.Envs.{Env, entry, held_or, Fits, HasMemories, Stands}
use Rattle.cell_emit.specs.Paths.{on, Does}
use Rattle.cell_emit.proofs.Staying.{stands-stays, sound-behind, memories-kept, longer-plain}
use Rattle.cell_expr.specs.Compiled.{Compiles}
use Rattle.cell_expr.proofs.Holding.{resized-zero}
use Rattle.cell_expr.specs.Counts.{exps_count, stm_count, fun_count, body_count}
use Rattle.cell_expr.specs.Passes.{AreCompiled, Begins, Passes}
use Rattle.cell_expr.proofs.Holding.{holds-wider, holds-node}

-- a call at depth 0 is 0
pub call-none : (names : Names) (files : List File) (f : ℕ) (es : Exps) (c : Form) (at : Env) (l0 new : ListData) (r n : ℕ) → Fits names l0 at → 1 ≤ n →
    ((signed : _) (own width : ℕ) → resized signed own width 0 ≡ 0) → Gives Nothing 1 l0 new r c.width (λ b. 0) → Compiles names (scope_at names files (calls_in names files 0)) n (Call f es) c at l0 new r
call-none names files f es c at l0 new r n fits le zero g =
    let scope = scope_at names files (calls_in names files 0) in
    let H : Shape → Type 0 = HasMemories names at in
    record {
      longer = longer-weaken Nothing H 1 n l0 new (λ s h. tt) le g.longer;
      slot = record { there = g.there; width = g.width };
      value = λ s b x sound st. g.value s b sound ∙ sym (zero c.signed (result_form names f).width c.width);
    }

module _ (names : Names) (files : List File) (depth : ℕ) (g : Fun) where
  abbrev scope : Scope
  scope = scope_at names files (calls_in names files (suc depth))

  abbrev inside : Names
  inside = names_in names g

  abbrev within : Scope
  within = scope_at inside files (calls_in inside files depth)

  pub call-compiles : (f : ℕ) (es : Exps) (c : Form) (at body0 body1 body2 : Env) (l0 l1 l2 l3 new : ListData) (r n m k : ℕ) → slice_get names.funs f ≡ Some g → IsSignal inside g.result → Fits names l0 at → 2 + n + m + 1 ≤ k →
      Begins inside 2 body0 l0 l1 → Passes names inside n at body0 body1 l1 l2 g.inputs (λ x. arguments scope x es (input_widths_of names (Some g))) →
      Does inside m (exec within g.body) body1.here body1 body2 l2 l3 →
      Gives Nothing 1 l3 new r c.width (λ b. resized c.signed (signal_form inside.rows g.result).width c.width (held_or b l3 (entry body2 g.result))) →
      Compiles names scope k (Call f es) c at l0 new r
  call-compiles f es c at body0 body1 body2 l0 l1 l2 l3 new r n m k there result fits le begins passes does gives =
      let H : Shape → Type 0 = HasMemories names at in
      let free : (s : Shape) → HasMemories inside body1 s = λ s. memories-kept inside body0 body1 s passes.keeps (begins.memories s) in
      let l01 = longer-plain names at 2 2 l0 l1 (omega arith) begins.longer in
      let l02 = longer-then H 2 n l0 l1 l2 l01 passes.longer in
      let l23 = longer-weaken (HasMemories inside body1) H m m l2 l3 (λ s h. free s) (omega arith) does.longer in
      let l03 = longer-then H (2 + n) m l0 l2 l3 l02 l23 in
      holds-wider names at (2 + n + m + 1) k l0 new r c.width (λ x. value scope x (Call f es) c) le
      (holds-node names at Nothing (2 + n + m) 1 l0 l3 new r c.width _ (λ x. value scope x (Call f es) c) (λ s h. tt) fits l03 gives
      (λ s t b x sound behind st later.
      let args = arguments scope x es (input_widths_of names (Some g)) in
      let s1 = sound-behind names at 2 s l0 l1 l01 sound in
      let s2 = sound-behind names at (2 + n) s l0 l2 l02 sound in
      let st1 = stands-stays names b l0 l1 at x (longer-grows H 2 l0 l1 l01) fits st in
      let start = begins.stands s b sound in
      let ready = passes.stands s1.shape b x (zeros inside.rows) s1.sound st1 start in
      let u : State = fresh (with_inputs g.inputs args (zeros inside.rows)) in
      let done = does.does s2.shape b u s2.sound refl ready in
      let here : held b l2 body1.here ≡ 0 = passes.fits.is_here s2.shape b s2.sound in
      let end = subst (λ o. Stands inside b l3 body2 (sample (on o (exec within g.body u) u))) here done in
      let is : value_of (exec within g.body u).values g.result ≡ held_or b l3 (entry body2 g.result) = end.values g.result result in
      ap (resized c.signed (signal_form inside.rows g.result).width c.width) (sym is) ∙ sym (meaning f es c x there)))
    where
      meaning : (f : ℕ) (es : Exps) (c : Form) (x : Sample) → slice_get names.funs f ≡ Some g → value scope x (Call f es) c
          ≡ resized c.signed (signal_form inside.rows g.result).width c.width (value_of (exec within g.body (fresh (with_inputs g.inputs (arguments scope x es (input_widths_of names (Some g))) (zeros inside.rows)))).values g.result)
      meaning f es c x e =
          ap (λ (o : Option Fun). resized c.signed (result_form_of names o).width c.width
          (result_of (scope_with (flat_in names) files (calls_in names files depth)) o (arguments scope x es (input_widths_of names o)))) e

-- ---- at any depth

pub call-at-none : (names : Names) (files : List File) (depth f : ℕ) (es : Exps) (c : Form) (at : Env) (l0 new : ListData) (r k : ℕ) → depth ≡ 0 → 1 ≤ k → Fits names l0 at → Gives Nothing 1 l0 new r c.width (λ b. 0) →
    Compiles names (scope_at names files (calls_in names files depth)) k (Call f es) c at l0 new r
call-at-none names files depth f es c at l0 new r k e le fits g =
    let F : ℕ → Type 0 = λ d. Compiles names (scope_at names files (calls_in names files d)) k (Call f es) c at l0 new r in
    subst F (sym e) (call-none names files f es c at l0 new r k fits le resized-zero g)

pub call-at : (names : Names) (files : List File) (depth d : ℕ) (g : Fun) (f : ℕ) (es : Exps) (c : Form) (at body0 body1 body2 : Env) (l0 l1 l2 l3 new : ListData) (r k : ℕ) → depth ≡ suc d → body_count names.funs depth f + exps_count (body_count names.funs depth) es + 3 ≤ k → slice_get names.funs f ≡ Some g → IsSignal (names_in names g) g.result → Fits names l0 at →
    Begins (names_in names g) 2 body0 l0 l1 →
    Passes names (names_in names g) (exps_count (body_count names.funs depth) es) at body0 body1 l1 l2 g.inputs (λ x. arguments (scope_at names files (calls_in names files depth)) x es (input_widths_of names (Some g))) →
    Does (names_in names g) (stm_count (body_count names.funs d) g.body) (exec (scope_at (names_in names g) files (calls_in (names_in names g) files d)) g.body) body1.here body1 body2 l2 l3 →
    Gives Nothing 1 l3 new r c.width (λ b. resized c.signed (signal_form (names_in names g).rows g.result).width c.width (held_or b l3 (entry body2 g.result))) →
    Compiles names (scope_at names files (calls_in names files depth)) k (Call f es) c at l0 new r
call-at names files depth d g f es c at body0 body1 body2 l0 l1 l2 l3 new r k e le there result fits begins passes does gives =
    let n = exps_count (body_count names.funs (suc d)) es in
    let m = stm_count (body_count names.funs d) g.body in
    let P : ℕ → Type 0 = λ z. Passes names (names_in names g) (exps_count (body_count names.funs z) es) at body0 body1 l1 l2 g.inputs (λ x. arguments (scope_at names files (calls_in names files z)) x es (input_widths_of names (Some g))) in
    let F : ℕ → Type 0 = λ z. Compiles names (scope_at names files (calls_in names files z)) k (Call f es) c at l0 new r in
    let le' : body_count names.funs (suc d) f + n + 3 ≤ k = subst (λ z. body_count names.funs z f + exps_count (body_count names.funs z) es + 3 ≤ k) e le in
    let size : body_count names.funs (suc d) f ≡ m = ap (fun_count (body_count names.funs d)) there in
    subst F (sym e) (call-compiles names files d g f es c at body0 body1 body2 l0 l1 l2 l3 new r n m k there result fits (omega (arith, size, le')) begins (subst P e passes) does gives)

-- the functions are compiled within each of them too
pub compiled-in : (names : Names) (g : Fun) → AreCompiled names → AreCompiled (names_in names g)
compiled-in names g h = record {
  sound = λ i d l. let s = h.sound i d l in record { inputs = s.inputs; result = s.result; body = s.body };
  cells = λ i d l. let s = h.cells i d l in record { net = s.net; apart = s.apart; inputs = s.inputs; result = s.result };
}

-- ---- the function that is called

pub function-at : (room : Room) (f k : ℕ) (x : Func) → Takes (slice_get (names_of room).funs f) k → slice_get (names_of room).funs f ≡ Some (fun_of (get_or room.funcs.now f x))
function-at room f k x takes =
    let lt = called-there (names_of room) f k takes in
    let long = length-map room.funcs.now fun_of in
    function-there room.funcs.now f x (omega (arith, lt, long))

pub takes-many : (o : Option Fun) (g : Fun) (k : ℕ) → o ≡ Some g → Takes o k → k ≡ length g.inputs
takes-many o g k e h = subst (λ (z : Option Fun). Takes z k) e h

pub begun-first : (room : Room) (first : ℕ) → first ≡ length room.signals.now → first ≡ length (names_of room).signals
begun-first room first e = let long = length-map room.signals.now row_of in omega (arith, long, e)
