-- What each instance is given, and of which module of the source it is.
use Rattle.std.proofs.Common.{◌≡◌, ℕ, suc, Bool, true, false, true≢false, List, [], ◌∷◌, map, inl, inr, Option, Some, refl, sym, ap, ◌∙◌}
use Rattle.std.specs.Prelude.{◌&&◌, All}
use Rattle.std.specs.Str.{bytes_eq}
use Rattle.std.proofs.lemmas.List.Elements.{All-nil, All-cons}
use Rattle.vl_flat.specs.vl_tree.specs.declared.source_tree.Source.{Source}
use Rattle.vl_flat.specs.vl_tree.specs.declared.source_tree.Module.{Module as ModuleTree}
use Rattle.vl_flat.specs.vl_tree.specs.Hierarchy.{graph_of, first_top}
use Rattle.vl_names.specs.vl_scope.specs.Faults.{In}
use Rattle.vl_flat.specs.Items as x
use Rattle.vl_flat.specs.Declarations.{module', modules}
use Rattle.vl_flat.specs.Kinds.{is_input}
use Rattle.vl_flat.specs.Environments.{Given}
use Rattle.vl_flat.specs.Flat as f
use Rattle.vl_sound.specs.Instances.{IsInstance, of_top, of_item}
use Rattle.vl_sound.proofs.Lists.{found-holds, told-at}
use Rattle.vl_sound.specs.Clocks.{ClocksAreInputs}
use Rattle.vl_flat.specs.vl_base.proofs.Booleans.{and_left as and-left}

pub clocks-are-inputs : (ms : List x.Module) (top : x.Module) (n : ℕ) (g : Given) (m : x.Module) → IsInstance ms top n g m → ClocksAreInputs m g
clocks-are-inputs ms top n g m of_top = λ t q. q
clocks-are-inputs ms top n g m (of_item n' g' m' of' before after us first others u h is split named) = λ t q. and-left (is_input of' t) _ q

-- the module is one of the source
abbrev IsOf : Source → x.Module → Type 0
IsOf s m = (tree : ModuleTree) × In tree s.modules × (module' tree ≡ m)

each-of : (s : Source) (trees : List ModuleTree) → ((tree : ModuleTree) → In tree trees → In tree s.modules) → All (IsOf s) (map module' trees)
each-of s [] h = All-nil (IsOf s)
each-of s (tree ∷ trees) h = All-cons (IsOf s) (module' tree) (map module' trees) (tree, h tree (inl refl), refl) (each-of s trees (λ t q. h t (inr q)))

pub instance-of : (s : Source) (top : x.Module) → f.top_of s ≡ Some top → (n : ℕ) (g : Given) (m : x.Module) → IsInstance (modules s) top n g m → IsOf s m
instance-of s top is n g m of_top = told-at (IsOf s) (modules s) (first_top (graph_of s)) top (each-of s s.modules (λ t q. q)) is
instance-of s top is n g m (of_item n' g' m' of' before after us first others u h e split named) =
    found-holds (IsOf s) (λ z. bytes_eq us.definition z.name.name) (modules s) of' (each-of s s.modules (λ t q. q)) named
