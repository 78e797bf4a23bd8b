use Rattle.std.proofs.Common.{◌≡◌, ◌+◌, length, take, Ok, Err, ap, ◌∙◌, rules, arith}
use Rattle.std.proofs.lemmas.List.{length-take, length-map}
use Rattle.std.proofs.lemmas.Result.{err_from_is_err_and}
use Rattle.table.proofs.Edges.{ring-only}
use Rattle.load.specs.Rows.{node_row}
use Rattle.load.proofs.Closings.{closed_table}
use Rattle.load.proofs.Passes.{passed, rest_passed, rest_stopped, checked}
use Rattle.load.proofs.loading.load.Goals as goal

pub returns-in_err-check_uses : goal.returns-in_err-check_uses
returns-in_err-check_uses c =
    let d = c.in_ok-draft.draft in
    let es = c.kept-equations.result.now in
    let n = c.in_ok-count.count in
    let p = err_from_is_err_and c.from_residual-in_err-check_uses.result c.from_residual-in_err-check_uses.ensures.1 in
    let l : length es + n ≡ length es + length (take n d.operands) = omega (arith, length-take n d.operands, c.in_ok-count.ensures.room) in
    let e = ap (λ m. take m c.nodes_of-nodes.result) l ∙ c.nodes_of-nodes.ensures in
    record {
      draft = Ok d;
      judged = c.in_ok-draft.ensures;
      made = passed d es n c.in_ok-result.result _ _ c.kept-equations.ensures.value c.in_ok-check_count.ensures c.in_ok-count.ensures.value c.in_ok-check_heads.ensures c.in_ok-result.ensures.value (rest_stopped d es n _ _ _ _ e c.in_err-check_uses.ensures (p.1 ∙ ap (λ x. Err x) p.2));
    }

pub returns : goal.returns
returns c =
    let d = c.in_ok-draft.draft in
    let es = c.kept-equations.result.now in
    let n = c.in_ok-count.count in
    let l : length es + n ≡ length es + length (take n d.operands) = omega (arith, length-take n d.operands, c.in_ok-count.ensures.room) in
    let e = ap (λ m. take m c.nodes_of-nodes.result) l ∙ c.nodes_of-nodes.ensures in
    let xs = take (length es + n) c.nodes_of-nodes.result in
    let w = c.in_ok-result.ensures.within in
    let long = length-take (length es + n) c.nodes_of-nodes.result in
    let rows = ap length c.table_rows-rows.ensures ∙ length-map xs (node_row es (length xs)) in
    let room = c.in_ok-count.ensures.room in
    let ring = ring-only _ c.in_ok-result.result (closed_table es xs _ c.table_rows-rows.ensures (omega arith) (omega arith)) (omega arith) (omega arith) in
    record {
      draft = Ok d;
      judged = c.in_ok-draft.ensures;
      made = passed d es n c.in_ok-result.result _ _ c.kept-equations.ensures.value c.in_ok-check_count.ensures c.in_ok-count.ensures.value c.in_ok-check_heads.ensures c.in_ok-result.ensures.value (rest_passed d es n _ _ _ _ e c.in_ok-check_uses.ensures c.table_rows-rows.ensures (checked _ _ c.check_rows.result _ c.check_rows.ensures ring (λ g f h. search rules) c.map_err.ensures.cases));
    }
