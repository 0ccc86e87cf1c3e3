-- What is left of the book after each kind of record is what is left of the whole, so each refusal is the whole's, and the last book is its answer.
use native.Mathlib.Omega.{arith}
use Rattle.std.proofs.lemmas.Result.{err_from_is_err_and}
use Rattle.book.proofs.Stages.{all_bytes, spans_held, lightpaths_held}
use Rattle.book.proofs.Replies.{head_stop, nodes_stop, nodes_none, nodes_on, spans_stop, spans_on, lightpaths_stop, lightpaths_on, alternatives_stop, end_stop, whole}
use Rattle.book.proofs.read.Goals as goal

pub returns-in_err-counts : goal.returns-in_err-counts
returns-in_err-counts c =
    let p = err_from_is_err_and c.from_residual.result c.from_residual.ensures.1 in
    rw (p.1, p.2) (head_stop c.args.s.now c.in_err-counts.ensures)

pub returns-in_err-nodes : goal.returns-in_err-nodes
returns-in_err-nodes c =
    let s = c.args.s.now in
    let b = all_bytes s (λ i. omega (arith, c.type_inv.s i)) in
    let p = err_from_is_err_and c.from_residual-in_err-nodes.result c.from_residual-in_err-nodes.ensures.1 in
    rw (p.1, p.2) (nodes_stop s b c.in_ok-counts.counts c.in_ok-counts.ensures c.in_err-nodes.ensures)

pub returns-then-nodes-eq0 : goal.returns-then-nodes-eq0
returns-then-nodes-eq0 c =
    let s = c.args.s.now in
    let b = all_bytes s (λ i. omega (arith, c.type_inv.s i)) in
    rw c.at.ensures (nodes_none s b c.in_ok-counts.counts c.in_ok-counts.ensures c.in_ok-nodes.ensures c.if-nodes-eq0.true)

pub returns-in_err-spans : goal.returns-in_err-spans
returns-in_err-spans c =
    let s = c.args.s.now in
    let b = all_bytes s (λ i. omega (arith, c.type_inv.s i)) in
    let n = nodes_on s b c.in_ok-counts.counts c.in_ok-counts.ensures c.in_ok-nodes.ensures c.if-nodes-eq0.false in
    let p = err_from_is_err_and c.from_residual-in_err-spans.result c.from_residual-in_err-spans.ensures.1 in
    rw (p.1, p.2) (spans_stop s b _ n c.in_err-spans.ensures)

pub with_lightpaths-requires : goal.with_lightpaths-requires
with_lightpaths-requires c =
    let s = c.args.s.now in
    let b = all_bytes s (λ i. omega (arith, c.type_inv.s i)) in
    let n = nodes_on s b c.in_ok-counts.counts c.in_ok-counts.ensures c.in_ok-nodes.ensures c.if-nodes-eq0.false in
    let x = spans_on s b _ n c.in_ok-spans.ensures in
    (c.in_ok-counts.counts.few.2, spans_held x.read)

pub returns-in_err-lightpaths : goal.returns-in_err-lightpaths
returns-in_err-lightpaths c =
    let s = c.args.s.now in
    let b = all_bytes s (λ i. omega (arith, c.type_inv.s i)) in
    let n = nodes_on s b c.in_ok-counts.counts c.in_ok-counts.ensures c.in_ok-nodes.ensures c.if-nodes-eq0.false in
    let x = spans_on s b _ n c.in_ok-spans.ensures in
    let p = err_from_is_err_and c.from_residual-in_err-lightpaths.result c.from_residual-in_err-lightpaths.ensures.1 in
    rw (p.1, p.2) (lightpaths_stop s b _ x c.in_err-lightpaths.ensures)

pub with_alternatives-requires : goal.with_alternatives-requires
with_alternatives-requires c =
    let s = c.args.s.now in
    let b = all_bytes s (λ i. omega (arith, c.type_inv.s i)) in
    let n = nodes_on s b c.in_ok-counts.counts c.in_ok-counts.ensures c.in_ok-nodes.ensures c.if-nodes-eq0.false in
    let x = spans_on s b _ n c.in_ok-spans.ensures in
    let l = lightpaths_on s b _ x c.in_ok-lightpaths.ensures in
    (c.in_ok-counts.counts.few.3, lightpaths_held l.read)

pub returns-in_err-all : goal.returns-in_err-all
returns-in_err-all c =
    let s = c.args.s.now in
    let b = all_bytes s (λ i. omega (arith, c.type_inv.s i)) in
    let n = nodes_on s b c.in_ok-counts.counts c.in_ok-counts.ensures c.in_ok-nodes.ensures c.if-nodes-eq0.false in
    let x = spans_on s b _ n c.in_ok-spans.ensures in
    let l = lightpaths_on s b _ x c.in_ok-lightpaths.ensures in
    let p = err_from_is_err_and c.from_residual-in_err-all.result c.from_residual-in_err-all.ensures.1 in
    rw (p.1, p.2) (alternatives_stop s b _ l c.in_err-all.ensures)

pub returns-in_err-en : goal.returns-in_err-en
returns-in_err-en c =
    let s = c.args.s.now in
    let b = all_bytes s (λ i. omega (arith, c.type_inv.s i)) in
    let n = nodes_on s b c.in_ok-counts.counts c.in_ok-counts.ensures c.in_ok-nodes.ensures c.if-nodes-eq0.false in
    let x = spans_on s b _ n c.in_ok-spans.ensures in
    let l = lightpaths_on s b _ x c.in_ok-lightpaths.ensures in
    let p = err_from_is_err_and c.from_residual-in_err-en.result c.from_residual-in_err-en.ensures.1 in
    rw (p.1, p.2) (end_stop s b _ l c.in_ok-all.ensures c.in_err-en.ensures)

pub returns : goal.returns
returns c =
    let s = c.args.s.now in
    let b = all_bytes s (λ i. omega (arith, c.type_inv.s i)) in
    let n = nodes_on s b c.in_ok-counts.counts c.in_ok-counts.ensures c.in_ok-nodes.ensures c.if-nodes-eq0.false in
    let x = spans_on s b _ n c.in_ok-spans.ensures in
    let l = lightpaths_on s b _ x c.in_ok-lightpaths.ensures in
    whole s b _ l c.in_ok-all.ensures c.in_ok-en.ensures
