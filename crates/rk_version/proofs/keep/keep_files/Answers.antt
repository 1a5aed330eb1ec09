use Rattle.std.proofs.Common.{sym, subst}
use Rattle.std.specs.List.{All, AllByRecursion}
use Rattle.std.proofs.lemmas.List.Elements.{All-from_recursion}
use Rattle.rk_bytes.specs.declared.model.manifest.FileMeta.{FileMeta}
use Rattle.rk_version.specs.Bounds.{HasWholeBounds}
use Rattle.rk_version.proofs.Keyed.{each_found}
use Rattle.rk_version.proofs.keep.keep_files.Goals as goal

pub invariant_of-result : goal.invariant_of-result
invariant_of-result c = record {
  bounds = All-from_recursion HasWholeBounds c.in_ok-files.files
      (subst (AllByRecursion HasWholeBounds) (sym c.in_ok-files.ensures) (each_found (λ (file : FileMeta). file.number) HasWholeBounds _ _ (subst (AllByRecursion HasWholeBounds) (sym c.as_slice.ensures) c.requires.bounds)));
}
