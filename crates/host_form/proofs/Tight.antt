-- A counter on a fabric with one cell too few.
use Rattle.std.proofs.Common.{◌≡◌, ℕ, zero, suc, List, [], ◌∷◌, codes, Some, None, refl}
use Rattle.std.specs.Fmt.{digits}
use Rattle.fab_io.specs.Outside.{Files}
use Rattle.host_text.specs.vl_design.specs.Cost.{cost}
use Rattle.host_text.specs.vl_design.specs.Examples.{counter}
use Rattle.host_text.specs.declared.block.Block.TheVariants as b
use Rattle.host_text.specs.Report.{report}
use Rattle.host_form.specs.Origins.{Source, Accepted, Tenant, no_place, cost_kind, IsRefused, for_its_cost}
use Rattle.host_form.specs.Runs.{Refused, IsPutNowhere}
use Rattle.host_form.specs.Reports.{IsReport}
use Rattle.host_form.specs.Examples.{lone_line, tight_script}

abbrev tight-tenant : Tenant
tight-tenant = record { line = lone_line; source = Accepted counter; files = []; snapshot = None }

pub nowhere : IsPutNowhere ([] ∷ []) 0
nowhere zero = refl
nowhere (suc g) = refl

abbrev tight-kind : List ℕ
tight-kind = cost_kind (cost counter) (record { registers = 128; cells = 47; memory = 0 })

tight-refused : IsRefused tight_script.fabrics tight-tenant no_place tight-kind
tight-refused = for_its_cost refl refl refl refl refl

tight-bytes : codes "refused A 0 0 cost 128 48 0 128 47 0\n" ≡ report (b.Refused (record { name = codes "A"; place = no_place; kind = tight-kind }) ∷ []) []
unfolding digits
tight-bytes = refl

pub tight-reported : (judged : List ℕ → Source → Type 0) (told : Files) (text : List ℕ) → told (codes "m.v") ≡ Some text → judged text (Accepted counter)
    → IsReport judged told tight_script ([] ∷ []) (codes "refused A 0 0 cost 128 48 0 128 47 0\n")
tight-reported judged told text there is = record {
  tenants = tight-tenant ∷ [];
  outcomes = Refused no_place tight-kind ∷ [];
  answers = [];
  read = (record { text = text; is = refl; there = there; source = is; files = tt; snapshot = tt }, tt);
  comes = ((tight-refused, nowhere), tt);
  orders = refl;
  replies = tt;
  is = tight-bytes;
}
