-- What the body of a function begins with.
use Rattle.std.proofs.Common.{◌≡◌, ℕ, zero, suc, ◌+◌, ◌-◌, Bool, true, false, List, [], ◌∷◌, ◌++◌, map, length, refl, sym, ap, ◌∙◌, arith, subst}
use Rattle.std.specs.Prelude.{nat_lt, slice_index, slice_index_or, Option, None, replicate, if◌then◌else◌}
use Rattle.std.proofs.lemmas.List.{length-map, length-replicate, length-append, replicate-append-replicate}
use Rattle.vl_design.specs.Functions.{zeros}
use Rattle.vl_design.specs.Syntax.{Row}
use Rattle.vl_design.specs.Value.{words_of}
use Rattle.vl_design.specs.declared.design.Func.{Func}
use Rattle.vl_design.specs.Trees.{row_of, fun_of}
use Rattle.vl_design.specs.Width.{Names, names_in}
use Rattle.vl_eval.specs.declared.room.Room.{Room}
use Rattle.vl_eval.specs.Rooms.{names_of}
use Rattle.vl_design.proofs.Fine.{zeros_fine}
use Rattle.cell_emit.specs.cell_form.specs.Data.{ListData}
use Rattle.cell_emit.specs.Slots.{Gives, Nothing}
use Rattle.cell_emit.proofs.Frames.{held-stays, longer-grows, longer-then, grows-then}
use Rattle.cell_emit.specs.Envs.{Env, entry, IsSlot, IsEntry, Always, Fits, HasWords, IsThere, held_or, word_or}
use Rattle.cell_emit.proofs.Staying.{is-slot-stays, always-stays, gives-slot}
use Rattle.cell_expr.specs.Passes.{Begins}
use Rattle.vl_base.proofs.Lists.{zero_index as none-index}

-- ---- zeros

zeros-index : (rows : List Row) (k j : ℕ) → slice_index (words_of (zeros rows) k) j ≡ 0
zeros-index [] k j = refl
zeros-index (r ∷ rows) zero j = none-index r.words j
zeros-index (r ∷ rows) (suc k) j = zeros-index rows k j

nothing-there : (n i : ℕ) → slice_index_or (replicate {A = Option ℕ} n None) i None ≡ None
nothing-there zero i = refl
nothing-there (suc n) zero = refl
nothing-there (suc n) (suc i) = nothing-there n i

no-entry : (at : Env) (n k : ℕ) → at.slots ≡ replicate n None → entry at k ≡ None
no-entry at n k e = of (nat_lt k at.first)
  where
    of : (b : Bool) → (if b then None else slice_index_or at.slots (k - at.first) None) ≡ None
    of true = refl
    of false = rw e (nothing-there n (k - at.first))

pub body-many : (room : Room) (func : Func) (first n : ℕ) (slots : List (Option ℕ)) → first ≡ length room.signals.now → n ≡ length func.locals → slots ≡ replicate n None →
    first + length slots ≡ length (names_in (names_of room) (fun_of func)).rows
body-many room func first n slots e m s =
    let a = length-append (map row_of room.signals.now) (map row_of func.locals) in
    let b = length-map room.signals.now row_of in
    let c = length-map func.locals row_of in
    let d : length slots ≡ n = ap length s ∙ length-replicate n None in
    omega (arith, a, b, c, d, e, m)

-- ---- the beginning

pub begins-with : (inside : Names) (body : Env) (n : ℕ) (old mid new : ListData) → body.slots ≡ replicate n None → body.first + length body.slots ≡ length inside.rows →
    IsSlot old body.here 1 → IsSlot old body.away 1 → Always old body.here 0 → Always old body.away 1 → Gives Nothing 1 old mid body.time 64 (λ b. 0) → Gives Nothing 1 mid new body.answer 32 (λ b. 0) → Begins inside 2 body old new
begins-with inside body n old mid new none many here away is-here is-away time answer =
    let g01 = longer-grows Nothing 1 old mid time.longer in
    let g12 = longer-grows Nothing 1 mid new answer.longer in
    let g02 = grows-then old mid new g01 g12 in
    let fits : Fits inside new body = record {
      many = many;
      signals = λ k h. subst (IsEntry new _) (sym (no-entry body n k none)) tt;
      time = is-slot-stays mid new body.time 64 g12 (gives-slot Nothing 1 old mid body.time 64 (λ b. 0) time);
      answer = gives-slot Nothing 1 mid new body.answer 32 (λ b. 0) answer;
      here = is-slot-stays old new body.here 1 g02 here;
      away = is-slot-stays old new body.away 1 g02 away;
      is_here = always-stays old new body.here 0 g02 here.there is-here;
      is_away = always-stays old new body.away 1 g02 away.there is-away;
    } in
    record {
      longer = longer-then Nothing 1 1 old mid new time.longer answer.longer;
      fits = fits;
      memories = λ s m h. subst (IsThere s) (sym (no-entry body n m none)) tt;
      stands = λ s b sound. record {
        fine = zeros_fine inside.rows;
        values = λ k h. zeros-index inside.rows k 0 ∙ sym (ap (held_or b new) (no-entry body n k none));
        words = λ m j h. zeros-index inside.rows m j ∙ sym (ap (λ e. word_or b e j) (no-entry body n m none));
        many = λ m h. subst (λ e. HasWords b e (length (words_of (zeros inside.rows) m))) (sym (no-entry body n m none)) tt;
        time = held-stays b mid new body.time g12 time.there ∙ time.value s b sound;
        answer = answer.value s b (time.longer.sound s tt sound);
      };
    }

pub none-more : (n : ℕ) (xs : List (Option ℕ)) → xs ≡ replicate n None → xs ++ None ∷ [] ≡ replicate (n + 1) None
none-more n xs e = rw e (replicate-append-replicate n 1 None)

pub ruleset starting = (none-more)
