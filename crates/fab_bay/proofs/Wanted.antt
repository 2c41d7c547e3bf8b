-- When some resident may do a cycle, and how often a fabric comes to rest before that.
use Rattle.std.proofs.Common.{◌≡◌, ℕ, suc, ◌+◌, ◌*◌, ◌<◌, ◌≤◌, ◌⊎◌, inl, inr, Bool, true, false, List, [], ◌∷◌, length, map, Option, Some, None, refl, sym, ap, ◌∙◌, subst, arith}
use Rattle.std.specs.Prelude.{◌&&◌, ◌||◌, not, is_some, if◌then◌else◌, nat_lt}
use Rattle.std.specs.Bool.{Decides}
use Rattle.std.proofs.lemmas.Bool.Decides.{nat_tests}
use Rattle.std.proofs.lemmas.List.{length-drop}
use Rattle.vl_design.specs.declared.capacity.Cost.{Cost}
use Rattle.vl_design.specs.Costs.{saturated_cost}
use Rattle.vl_design.specs.Cost.{cost}
use Rattle.vl_design.proofs.Shared.{cost_by}
use Rattle.ten_core.specs.declared.origin.Origin.{Origin}
use Rattle.ten_core.specs.Tenants.{origin_of}
use Rattle.fab_core.specs.ten_shell.specs.Leaving.{why_in}
use Rattle.fab_core.specs.fab_model.specs.Points.{cost_of, due, rests, run_in, waits, Point}
use Rattle.fab_core.specs.fab_model.specs.Fabrics.{can_step, first_leaving, first_waiting, head_fits, held, is_still, joiners, joining, may_cycle, plus, rebuilt, steppers, total, within, Fabric}
use Rattle.fab_core.specs.fab_model.specs.Worlds.{is_at_rest}
use Rattle.fab_core.specs.fab_model.proofs.Seats.{fit_legal, FitAlone}
use Rattle.fab_core.proofs.Looks.{all_rest, head-is, still-is}
use Rattle.fab_bay.specs.declared.berth.Berth.{Berth}
use Rattle.fab_bay.specs.declared.noted.NotedCore.{NotedCore}
use Rattle.fab_bay.specs.Acts.{moves_to_come, rests_to_come}
use Rattle.fab_bay.specs.Berths.{seat, seats, AreBerths, AreWaiters}
use Rattle.fab_bay.specs.Rounds.{is_wanted, HasHeld, HasStepper, IsVacant}
use Rattle.fab_bay.specs.Standing.{IsNoted}
use Rattle.fab_bay.proofs.Acts.{may-step, none-waits}
use Rattle.fab_bay.proofs.Coming.{joined_many, joiners_most}
use Rattle.fab_bay.proofs.Places.{berths_many, waiters_berths}

-- ---- residents that step

one-more : (n : ℕ) → nat_lt 0 (suc n) ≡ true
one-more n = grind (arith, nat_tests)

steps-behind : (b : Bool) (n : ℕ) → nat_lt 0 n ≡ true → nat_lt 0 (if b then suc n else n) ≡ true
steps-behind true n h = one-more n
steps-behind false n h = h

steps-here : (holding : Bool) (p : Point) (ps : List Point) → can_step holding p ≡ true → nat_lt 0 (steppers holding (p ∷ ps)) ≡ true
steps-here holding p ps e = ap (λ (b : Bool). nat_lt 0 (if b then suc (steppers holding ps) else steppers holding ps)) e ∙ one-more (steppers holding ps)

-- while it holds: nobody waits, and not all rest
rest-steps : (ps : List Point) → first_waiting ps ≡ None → all_rest ps ≡ false → nat_lt 0 (steppers true ps) ≡ true
rest-steps [] quiet e = let z : ⊥ = cc in absurd z
rest-steps (p ∷ ps) quiet e =
    let q = none-waits (waits p) p.number (first_waiting ps) quiet in
    by (rests p) refl e q.0 (rest-steps ps q.1)
  where
    by : (v : Bool) → rests p ≡ v → (v && all_rest ps) ≡ false → waits p ≡ false → (all_rest ps ≡ false → nat_lt 0 (steppers true ps) ≡ true) → nat_lt 0 (steppers true (p ∷ ps)) ≡ true
    by true i e w more = steps-behind (can_step true p) (steppers true ps) (more e)
    by false i e w more = steps-here true p ps (may-step (waits p) (rests p) (why_in (run_in p).plan p.stopped p.moved p.stage.state) w i)

pub held-steps : (f : Fabric) → first_waiting f.residents ≡ None → is_at_rest (held f) ≡ false → may_cycle (held f) ≡ true
held-steps f quiet e = rest-steps f.residents quiet (sym (still-is (held f)) ∙ e)

-- while it doesn't: nobody waits or is due to leave
free-step : (w d r : Bool) → w ≡ false → d ≡ false → (not w && (not d && not (false && r))) ≡ true
free-step true d r e f = let z : ⊥ = cc in absurd z
free-step false true r e f = let z : ⊥ = cc in absurd z
free-step false false r e f = refl

free-steps : (p : Point) (ps : List Point) → first_waiting (p ∷ ps) ≡ None → first_leaving (p ∷ ps) ≡ None → nat_lt 0 (steppers false (p ∷ ps)) ≡ true
free-steps p ps quiet none =
    let q = none-waits (waits p) p.number (first_waiting ps) quiet in
    let l = none-waits (is_some (due p)) p.number (first_leaving ps) none in
    steps-here false p ps (free-step (waits p) (is_some (due p)) (rests p) q.0 l.0)

-- ---- a line whose head fits alone

line-fits : (n : ℕ) (c : Cost) (ws : List Berth) (q : Point) (qs : List Point) → AreWaiters n ws (q ∷ qs) → FitAlone c (map (seat false) ws) → within (cost_of q) c ≡ true
line-fits n c [] q qs h a = absurd h
line-fits n c (b ∷ ws) q qs h a = ap (λ (o : Origin). within (saturated_cost (cost (origin_of o).flat)) c) (sym h.0.berth.origin) ∙ a.0

fits-behind : (c : Cost) (bs ws : List Berth) → FitAlone c (seats bs ws) → FitAlone c (map (seat false) ws)
fits-behind c [] ws a = a
fits-behind c (b ∷ bs) ws a = fits-behind c bs ws a.1

alone : (x : Cost) → plus (total []) x ≡ x
alone x = cost_by (plus (total []) x) x (omega arith) (omega arith) (omega arith)

-- the head of a line fits where there are no residents
head-fits : (x : NotedCore) (f : Fabric) (q : Point) (qs : List Point) → IsNoted x f → f.residents ≡ [] → f.line ≡ q ∷ qs → head_fits f ≡ true
head-fits x f q qs n e l =
    let fit : FitAlone x.label.capacity (seats x.berths.items x.waiting.items) = subst (λ zs. FitAlone x.label.capacity zs) n.replayed (fit_legal x.label.fabric x.label.capacity x.notes.items n.legal) in
    let line : AreWaiters x.label.tenants x.waiting.items (q ∷ qs) = subst (λ (zs : List Point). AreWaiters x.label.tenants x.waiting.items zs) l n.line in
    let one : within (cost_of q) x.label.capacity ≡ true = line-fits x.label.tenants x.label.capacity x.waiting.items q qs line (fits-behind x.label.capacity x.berths.items x.waiting.items fit) in
    head-is f q qs l
    ∙ (ap (λ (zs : List Point). within (plus (total zs) (cost_of q)) f.capacity) e
    ∙ (ap (λ (u : Cost). within u f.capacity) (alone (cost_of q)) ∙ (ap (λ (u : Cost). within (cost_of q) u) n.capacity ∙ one)))

no-berths : (n : ℕ) (bs : List Berth) → AreBerths n bs [] → bs ≡ []
no-berths n [] h = refl
no-berths n (b ∷ bs) h = absurd h

no-waiters : (n : ℕ) (ws : List Berth) → AreWaiters n ws [] → ws ≡ []
no-waiters n [] h = refl
no-waiters n (w ∷ ws) h = absurd h

-- ---- somebody steps, or nobody is left

module _ (x : NotedCore) (f : Fabric) (n : IsNoted x f) (quiet : first_waiting f.residents ≡ None) where
  free-or-vacant : (ps qs : List Point) → f.residents ≡ ps → f.line ≡ qs → f.holding ≡ false → first_leaving f.residents ≡ None → head_fits f ≡ false → IsVacant x ⊎ HasStepper x
  free-or-vacant (p ∷ ps) qs e l h none off =
      let q : first_waiting (p ∷ ps) ≡ None = ap first_waiting (sym e) ∙ quiet in
      let d : first_leaving (p ∷ ps) ≡ None = ap first_leaving (sym e) ∙ none in
      inr (f, n, ap (λ (v : Bool). nat_lt 0 (steppers v f.residents)) h ∙ (ap (λ (zs : List Point). nat_lt 0 (steppers false zs)) e ∙ free-steps p ps q d))
  free-or-vacant [] [] e l h none off =
      inl (
        no-berths x.label.tenants x.berths.items (subst (λ (zs : List Point). AreBerths x.label.tenants x.berths.items zs) e n.residents),
        no-waiters x.label.tenants x.waiting.items (subst (λ (zs : List Point). AreWaiters x.label.tenants x.waiting.items zs) l n.line),
      )
  free-or-vacant [] (q ∷ qs) e l h none off = let on = head-fits x f q qs n e l in let z : ⊥ = cc in absurd z

  pub sets-out : (f.holding ≡ false → (first_leaving f.residents ≡ None) × (head_fits f ≡ false)) → is_at_rest f ≡ false → IsVacant x ⊎ HasStepper x
  sets-out settled rest = by f.holding refl
    where
      by : (v : Bool) → f.holding ≡ v → IsVacant x ⊎ HasStepper x
      by true h =
          let still : is_still f ≡ false = ap (λ (v : Bool). v && is_still f) (sym h) ∙ rest in
          inr (f, n, ap (λ (v : Bool). nat_lt 0 (steppers v f.residents)) h ∙ rest-steps f.residents quiet (sym (still-is f) ∙ still))
      by false h = let s = settled h in free-or-vacant f.residents f.line refl refl h s.0 s.1

-- the same count of steppers for each fabric for which a core stands
pub all-step : (x : NotedCore) (count : ℕ) → ((f : Fabric) → IsNoted x f → count ≡ steppers f.holding f.residents) → HasStepper x → (f : Fabric) → IsNoted x f → may_cycle f ≡ true
all-step x count many s f n = ap (nat_lt 0) (sym (many f n) ∙ many s.0 s.1) ∙ s.2

-- ---- who joins

joins-line : (f : Fabric) (ls : List Point) → f.line ≡ ls → head_fits f ≡ true → 1 ≤ joining f
joins-line f [] e h =
    let off : head_fits f ≡ false = ap (λ (zs : List Point). head_fits (record f { line = zs })) e in
    let z : ⊥ = cc in
    absurd z
joins-line f (q ∷ qs) e h =
    let fits : within (plus (total f.residents) (cost_of q)) f.capacity ≡ true = sym (head-is f q qs e) ∙ h in
    let behind = joiners f.capacity (plus (total f.residents) (cost_of q)) qs in
    let many : joining f ≡ suc behind = ap (joiners f.capacity (total f.residents)) e ∙ ap (λ (b : Bool). if b then suc behind else 0) fits in
    omega (arith, many)

pub moves-at : (x : NotedCore) (f : Fabric) → IsNoted x f → moves_to_come x ≡ length f.residents + 2 * length f.line
moves-at x f n =
    let a = berths_many x.label.tenants x.berths.items f.residents n.residents in
    let b = berths_many x.label.tenants x.waiting.items f.line (waiters_berths x.label.tenants x.waiting.items f.line n.line) in
    omega (arith, a, b)

pub rebuilt-moves : (x y : NotedCore) (f : Fabric) → IsNoted x f → IsNoted y (rebuilt f) → moves_to_come y + joining f ≡ moves_to_come x
rebuilt-moves x y f n m =
    let a = moves-at x f n in
    let b = moves-at y (rebuilt f) m in
    let c = joined_many f in
    let d = length-drop (joining f) f.line in
    let e = joiners_most f.capacity (total f.residents) f.line in
    omega (arith, a, b, c, d, e)

-- ---- how often it comes to rest

rests-of : (b : Bool) (n : ℕ) → (n ≤ n + (if b then 1 else 0)) × (n + (if b then 1 else 0) ≤ n + 1)
rests-of true n = (omega arith, omega arith)
rests-of false n = (omega arith, omega arith)

rests-held : (x : NotedCore) → x.core.holding ≡ true → rests_to_come x ≡ 2 * moves_to_come x + 1
rests-held x e = ap (λ (b : Bool). 2 * moves_to_come x + (if b then 1 else 0)) e

rests-free : (x : NotedCore) → x.core.holding ≡ false → rests_to_come x ≡ 2 * moves_to_come x + 0
rests-free x e = ap (λ (b : Bool). 2 * moves_to_come x + (if b then 1 else 0)) e

pub rests-by : (x y : NotedCore) → length y.berths.items ≡ length x.berths.items → length y.waiting.items ≡ length x.waiting.items → y.core.holding ≡ x.core.holding → rests_to_come y ≡ rests_to_come x
rests-by x y b w h =
    let m : moves_to_come y ≡ moves_to_come x = omega (arith, b, w) in
    ap (λ (n : ℕ). 2 * n + (if y.core.holding then 1 else 0)) m ∙ ap (λ (v : Bool). 2 * moves_to_come x + (if v then 1 else 0)) h

-- at rest, where a tenant leaves
pub left-rests : (x y : NotedCore) → x.core.holding ≡ true → moves_to_come y < moves_to_come x → rests_to_come y + 1 < rests_to_come x
left-rests x y h lt =
    let a = rests-held x h in
    let b = (rests-of y.core.holding (2 * moves_to_come y)).1 in
    omega (arith, lt, a, b)

-- at rest, where the bank is made anew
module _ (x y : NotedCore) (f : Fabric) (n : IsNoted x f) (m : IsNoted y (rebuilt f)) (h : x.core.holding ≡ true) where
  pub rebuilt-rests : rests_to_come y < rests_to_come x
  rebuilt-rests =
      let a = rests-held x h in
      let b = rests-free y m.core.holding in
      let c = rebuilt-moves x y f n m in
      omega (arith, a, b, c)

  pub joined-rests : head_fits f ≡ true → rests_to_come y + 1 < rests_to_come x
  joined-rests fits =
      let a = rests-held x h in
      let b = rests-free y m.core.holding in
      let c = rebuilt-moves x y f n m in
      let d = joins-line f f.line refl fits in
      omega (arith, a, b, c, d)

-- who is wanted where nobody is due to leave
pub wanted-head : (f : Fabric) → is_wanted f ≡ true → first_leaving f.residents ≡ None → head_fits f ≡ true
wanted-head f w e = ap (λ (o : Option ℕ). is_some o || head_fits f) (sym e) ∙ w

-- at rest a fabric holds
pub rest-holds : (x : NotedCore) (f : Fabric) → IsNoted x f → is_at_rest f ≡ true → x.core.holding ≡ true
rest-holds x f n e = n.core.holding ∙ by f.holding e
  where
    by : (v : Bool) → (v && is_still f) ≡ true → v ≡ true
    by true e = refl
    by false e = let z : ⊥ = cc in absurd z

-- ---- where it comes to hold

-- nobody is wanted
pub nobody-wanted : (f : Fabric) → is_wanted f ≡ false → (first_leaving f.residents ≡ None) × (head_fits f ≡ false)
nobody-wanted f e = by (first_leaving f.residents) (head_fits f) e
  where
    by : (o : Option ℕ) (b : Bool) → (is_some o || b) ≡ false → (o ≡ None) × (b ≡ false)
    by (Some t) b e = let z : ⊥ = cc in absurd z
    by None b e = (refl, e)

pub held-not : (x : NotedCore) (f : Fabric) → IsNoted x f → HasHeld x x f
held-not x f n = record { fabric = f; noted = n; residents = refl; rests = inl refl }

head-held : (f : Fabric) (ls : List Point) → head_fits (record (held f) { line = ls }) ≡ head_fits (record f { line = ls })
head-held f [] = refl
head-held f (q ∷ qs) = refl

pub held-for : (x y : NotedCore) (f : Fabric) → IsNoted y (held f) → is_wanted f ≡ true → x.core.holding ≡ false → y.core.holding ≡ true → moves_to_come y ≡ moves_to_come x → HasHeld x y f
held-for x y f m w off on e = record {
  fabric = held f;
  noted = m;
  residents = refl;
  rests = inr (
    ap (λ (v : Bool). is_some (first_leaving f.residents) || v) (head-held f f.line) ∙ w,
    let a = rests-free x off in let b = rests-held y on in omega (arith, a, b, e),
  );
}

-- it comes to rest less often than before it was held
pub fewer-rests : (x s y z : NotedCore) (f : Fabric) → HasHeld s y f → rests_to_come s ≡ rests_to_come x → rests_to_come z < rests_to_come y
    → ((g : Fabric) → IsNoted y g → is_wanted g ≡ true → rests_to_come z + 1 < rests_to_come y) → rests_to_come z < rests_to_come x
fewer-rests x s y z f h e one two = by h.rests
  where
    by : (rests_to_come y ≡ rests_to_come s) ⊎ ((is_wanted h.fabric ≡ true) × (rests_to_come y ≡ rests_to_come s + 1)) → rests_to_come z < rests_to_come x
    by (inl same) = omega (arith, e, one, same)
    by (inr more) =
        let lt = two h.fabric h.noted more.0 in
        let up = more.1 in
        omega (arith, e, lt, up)

-- somebody is left, so some resident may do a cycle
pub not-vacant : (x : NotedCore) (b : Bool) → Decides b (IsVacant x) → b ≡ false → IsVacant x ⊎ HasStepper x → HasStepper x
not-vacant x b d e (inl v) = let on = d.1 v in let z : ⊥ = cc in absurd z
not-vacant x b d e (inr s) = s
