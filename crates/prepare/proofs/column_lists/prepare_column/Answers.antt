-- `prepare::column_lists::prepare_column` meets its contract. The sort by keys is the order by values, and the cuts along it are the column's.
use Rattle.prepare.proofs.Columns.{is_order, ordering, is_count, are_cuts}
use Rattle.prepare.proofs.column_lists.prepare_column.Goals as goal

pub find_cuts-requires : goal.find_cuts-requires
find_cuts-requires c =
    let p = c in
    let w = c in
    ordering _ _ _ p.requires _ w.sort.ensures _ w.sort.auto.spare

pub returns : goal.returns
returns c =
    let p = c in
    let w = c in
    let f = c.find_cuts.ensures in
    (is_count _ _ _ p.requires _ w.sort.ensures _ f.0, is_order _ _ _ p.requires _ w.sort.ensures, are_cuts _ _ _ p.requires _ w.sort.ensures _ f.1)
