use Rattle.std.proofs.Common.{◌≡◌, length, inl, cond, ap, ◌∙◌, sym, arith}
use Rattle.std.proofs.lemmas.Iterator.Consumers.{YieldsList-from_first, count_from_yields_List}
use Rattle.model.specs.Trees.{is_mark}
use Rattle.records.specs.Bytes.{node_code}
use Rattle.records.specs.declared.NodeKind.TheVariants as node_kind
use Rattle.stored.specs.Words.{below}
use Rattle.stored.specs.Nodes.{tree_of, named, siblings_left}
use Rattle.stored.proofs.Once.{open_owned}
use Rattle.stored.proofs.Own.{children_few, length_entries}
use Rattle.transfer.proofs.record_of.Goals as goal
use Rattle.transfer.proofs.record_of.Goals.{then-is_mark, else-is_mark}

pub count-requires-clause-fits : goal.count-requires-clause-fits
count-requires-clause-fits c = inl (omega (arith, ap length c.children.ensures, children_few (open_owned c.args.tree.ok)))

pub overflow_cast-result : goal.overflow_cast-result
overflow_cast-result c =
    omega (
      arith,
      count_from_yields_List c.children.result _ c.count.ensures.ran (YieldsList-from_first named siblings_left _ c.children.ensures),
      children_few (open_owned c.args.tree.ok),
    )

kind_is : (c : goal.After-code) → c.code.result ≡ cond (is_mark (tree_of c.args.tree)) (node_code node_kind.Mark) (node_code node_kind.Tree)
kind_is c =
    elim c.if-is_mark.branch [
      | then-is_mark w ↦
          c.code.ensures ∙ ap node_code w.kind-is ∙ ap (λ b. cond b (node_code node_kind.Mark) (node_code node_kind.Tree)) (sym w.if-is_mark.true ∙ c.is_mark.ensures)
      | else-is_mark w ↦
          c.code.ensures ∙ ap node_code w.kind-is ∙ ap (λ b. cond b (node_code node_kind.Mark) (node_code node_kind.Tree)) (sym w.if-is_mark.false ∙ c.is_mark.ensures)
    ]

pub returns : goal.returns
returns c =
    let many =
    count_from_yields_List c.children.result _ c.count.ensures.ran (YieldsList-from_first named siblings_left _ c.children.ensures)
    ∙ length_entries (below (tree_of c.args.tree)) in
    λ i. record { name = c.name.ensures i; children = many i; kind = kind_is c i; last = 0 }
