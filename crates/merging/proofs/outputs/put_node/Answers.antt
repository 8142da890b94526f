use Rattle.std.proofs.Common.{refl, arith}
use Rattle.area.specs.declared.regions.Region.TheVariants.{New}
use Rattle.area.proofs.Laws.{view_length, limit_small}
use Rattle.merging.proofs.Writing.{node_pasted}
use Rattle.merging.proofs.outputs.put_node.Goals as goal

pub overflow_mul-at : goal.overflow_mul-at
overflow_mul-at c = omega (arith, limit_small c.args.area.now)

pub overflow_add-result : goal.overflow_add-result
overflow_add-result c = omega (arith, limit_small c.args.area.now)

pub returns : goal.returns
returns c =
    record {
      end = refl;
      words =
          node_pasted _ _ c.args.at c.args.name c.args.count c.args.kind c.write.ensures.here
          (omega (arith, view_length c.args.area.now (New c.args.to), c.requires));
      only = c.write.ensures.only;
    }
