-- The ports of the banks of the tests.
use Rattle.std.proofs.Common.{◌≡◌, ℕ, zero, suc, ◌<◌, true, false, List, [], ◌∷◌, sym, subst, arith}
use Rattle.std.specs.Prelude.{AllPairs}
use Rattle.std.proofs.lemmas.List.Elements.{All-nil, All-cons}
use Rattle.cell_form.specs.declared.bank.Port.{Port}
use Rattle.cell_form.specs.Data.{BankData}
use Rattle.reg_ports.specs.Ports.{IsPort, AreApart, IsMap}

abbrev pub variable : Port
variable = record { mem = false; value = 1; work = 0; width = 8; words = 0 }

abbrev pub memory : Port
memory = record { mem = true; value = 0; work = 0; width = 4; words = 2 }

variable-port : (x y : ℕ) (mems : List (List ℕ)) → x < 256 → IsPort (record { regs = x ∷ y ∷ []; mems = mems; slots = [] }) variable
variable-port x y mems lt = record {
  width = record { wide = omega arith; narrow = omega arith };
  there = record { registers = λ e. (omega arith, omega arith); memory = λ e. absurd (cc) };
  fits = All-cons (λ w. w < 256) x [] lt (All-nil (λ w. w < 256));
}

memory-port : (regs : List ℕ) → IsPort (record { regs = regs; mems = (1 ∷ 2 ∷ 3 ∷ []) ∷ []; slots = [] }) memory
memory-port regs = record {
  width = record { wide = omega arith; narrow = omega arith };
  there = record { registers = λ e. absurd (cc); memory = λ e. (omega arith, omega arith) };
  fits = All-cons (λ w. w < 16) 1 (2 ∷ []) (omega arith) (All-cons (λ w. w < 16) 2 [] (omega arith) (All-nil (λ w. w < 16)));
}

no-pairs : {X : Type 0} (R : X → X → Type 0) (x : X) → AllPairs R (x ∷ [])
no-pairs R x i j d lt within = absurd (omega arith)

one-pair : {X : Type 0} (R : X → X → Type 0) (x y : X) → R x y → AllPairs R (x ∷ y ∷ [])
one-pair R x y h zero zero d lt within = absurd (omega arith)
one-pair R x y h zero (suc zero) d lt within = h
one-pair R x y h zero (suc (suc j)) d lt within = absurd (omega arith)
one-pair R x y h (suc i) zero d lt within = absurd (omega arith)
one-pair R x y h (suc i) (suc zero) d lt within = absurd (omega arith)
one-pair R x y h (suc i) (suc (suc j)) d lt within = absurd (omega arith)

alone-map : IsMap (variable ∷ []) (record { regs = 0 ∷ 0 ∷ []; mems = []; slots = [] })
alone-map =
    let b : BankData = record { regs = 0 ∷ 0 ∷ []; mems = []; slots = [] } in
    record { each = All-cons (IsPort b) variable [] (variable-port 0 0 [] (omega arith)) (All-nil (IsPort b)); apart = no-pairs AreApart variable }

both-map : IsMap (variable ∷ memory ∷ []) (record { regs = 5 ∷ 6 ∷ []; mems = (1 ∷ 2 ∷ 3 ∷ []) ∷ []; slots = [] })
both-map =
    let mems : List (List ℕ) = (1 ∷ 2 ∷ 3 ∷ []) ∷ [] in
    let b : BankData = record { regs = 5 ∷ 6 ∷ []; mems = mems; slots = [] } in
    record {
      each = All-cons (IsPort b) variable (memory ∷ []) (variable-port 5 6 mems (omega arith)) (All-cons (IsPort b) memory [] (memory-port (5 ∷ 6 ∷ [])) (All-nil (IsPort b)));
      apart = one-pair AreApart variable memory (record { registers = λ e f. absurd (cc); memories = λ e f. absurd (cc) });
    }

same-map : (ports others : List Port) (regs rs : List ℕ) (mems ms : List (List ℕ)) (slots ss : List ℕ) → ports ≡ others → regs ≡ rs → mems ≡ ms → slots ≡ ss →
    IsMap others (record { regs = rs; mems = ms; slots = ss }) → IsMap ports (record { regs = regs; mems = mems; slots = slots })
same-map ports others regs rs mems ms slots ss e f g h k =
    let P : List Port → Type 0 = λ x. IsMap x (record { regs = regs; mems = mems; slots = slots }) in
    let Q : List ℕ → Type 0 = λ x. IsMap others (record { regs = x; mems = mems; slots = slots }) in
    let R : List (List ℕ) → Type 0 = λ x. IsMap others (record { regs = rs; mems = x; slots = slots }) in
    let S : List ℕ → Type 0 = λ x. IsMap others (record { regs = rs; mems = ms; slots = x }) in
    subst P (sym e) (subst Q (sym f) (subst R (sym g) (subst S (sym h) k)))

pub alone-is : (ports : List Port) (regs : List ℕ) (mems : List (List ℕ)) (slots : List ℕ) → ports ≡ variable ∷ [] → regs ≡ 0 ∷ 0 ∷ [] → mems ≡ [] → slots ≡ [] → IsMap ports (record { regs = regs; mems = mems; slots = slots })
alone-is ports regs mems slots e f g h = same-map ports (variable ∷ []) regs (0 ∷ 0 ∷ []) mems [] slots [] e f g h alone-map

pub both-is : (ports : List Port) (regs : List ℕ) (mems : List (List ℕ)) (slots : List ℕ) → ports ≡ variable ∷ memory ∷ [] → regs ≡ 5 ∷ 6 ∷ [] → mems ≡ (1 ∷ 2 ∷ 3 ∷ []) ∷ [] → slots ≡ [] → IsMap ports (record { regs = regs; mems = mems; slots = slots })
both-is ports regs mems slots e f g h = same-map ports (variable ∷ memory ∷ []) regs (5 ∷ 6 ∷ []) mems ((1 ∷ 2 ∷ 3 ∷ []) ∷ []) slots [] e f g h both-map
