use Rattle.std.proofs.Common.{◌*◌, [], ◌∷◌, ◌++◌, take, sym, ap, ◌∙◌, arith}
use Rattle.tables.specs.declared.Table.TheVariants.{Archive, Field, Bench}
use Rattle.merging.proofs.Regions.{twice, thrice}
use Rattle.merging.proofs.Writing.{by_table}
use Rattle.merging.proofs.outputs.open_all.Goals as goal

pub put_node-requires : goal.put_node-requires
put_node-requires c = c.requires Archive

pub put_node-requires-2 : goal.put_node-requires-2
put_node-requires-2 c = omega (arith, c.requires Field, c.put_node.ensures.only.same_limit)

pub put_node-requires-3 : goal.put_node-requires-3
put_node-requires-3 c =
    let z = twice c.put_node.ensures.only c.put_node-2.ensures.only in
    omega (arith, c.requires Bench, z.same_limit)

pub returns : goal.returns
returns c =
    let w = thrice c.put_node.ensures.only c.put_node-2.ensures.only c.put_node-3.ensures.only in
    let n = c.args.new in
    let node = c.args.name ∷ 0 ∷ 0 ∷ [] in
    record {
      ends = by_table _ c.put_node.ensures.end c.put_node-2.ensures.end c.put_node-3.ensures.end;
      words =
          by_table _ (ap (take (3 * c.put_node.result)) w.archive_after ∙ c.put_node.ensures.words)
          (ap (take (3 * c.put_node-2.result)) w.field_after
          ∙ c.put_node-2.ensures.words
          ∙ ap (λ l. take (3 * n.field) l ++ node) (sym w.field_before))
          (c.put_node-3.ensures.words ∙ ap (λ l. take (3 * n.bench) l ++ node) (sym w.bench_before));
      only = w.only;
    }
