-- The names of a port, step by step.
use Rattle.std.proofs.Common.{◌≡◌, ℕ, zero, suc, ◌<◌, length, List, Ok, Some, None, codes, sym, arith}
use Rattle.vl_tree.specs.vl_base.specs.declared.place.Place.{Place}
use Rattle.vl_tree.specs.declared.token.Token.{Token}
use Rattle.vl_tree.specs.Reading.{next_by, mark}
use Rattle.vl_tree.specs.declared.source_fault.Fault.{Fault}
use Rattle.vl_tree.specs.declared.source_tree.PortDeclaration.{PortDeclaration}
use Rattle.vl_tree.specs.Parsers.{Outcome, Fails}
use Rattle.vl_tree.specs.Parsing.{whole, target, port_names, port_grow}
use Rattle.vl_pstmt.proofs.Passing.{fails_on}

module _ (n : ℕ) (port : PortDeclaration) (ts : List Token) (all : Outcome PortDeclaration) where
  -- what the names are from here on, at this port, is the whole
  abbrev pub NamesGoOn : Type 0
  NamesGoOn = (k : ℕ) × (length ts < k) × (port_names (whole n) (target n) n k port ts ≡ all)

module _ (n : ℕ) (port : PortDeclaration) (ts : List Token) (all : Outcome PortDeclaration) where
  -- what is left of them after a turn
  pub names_turn : (us vs : List Token) (x : Place) (grown : PortDeclaration) → Some (x, us) ≡ next_by (mark (codes ",")) ts → port_grow (whole n) (target n) n port us ≡ Ok (grown, vs) → length vs < length ts
      → NamesGoOn n port ts all → NamesGoOn n grown vs all
  unfolding port_names
  names_turn us vs x grown a b l (zero, h, q) = absurd (omega arith)
  names_turn us vs x grown a b l (suc k, h, q) = (k, omega arith, rw (← a, b) at q)

  -- they end before another token
  pub names_end : None ≡ next_by (mark (codes ",")) ts → NamesGoOn n port ts all → all ≡ Ok (port, ts)
  unfolding port_names
  names_end a (zero, h, q) = absurd (omega arith)
  names_end a (suc k, h, q) = sym (rw (← a) at q)

  -- a fault in a name is one of the port
  pub names_fail : (us : List Token) (x : Place) (e : Fault) → Some (x, us) ≡ next_by (mark (codes ",")) ts → Fails e (port_grow (whole n) (target n) n port us) → NamesGoOn n port ts all → Fails e all
  unfolding port_names
  names_fail us x e a b (zero, h, q) = absurd (omega arith)
  names_fail us x e a b (suc k, h, q) =
      let g : Fails e (port_names (whole n) (target n) n (suc k) port ts) = rw (← a) (fails_on e _ _ b) in
      rw q at g
