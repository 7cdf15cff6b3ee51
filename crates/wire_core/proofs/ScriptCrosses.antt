-- Scripts may go to another thread, and numbers.
use denote.RattleType.{RattleType}
use denote.Hole.{as_row}
use denote.Hole.FixSend.{Sends, fix_send}
use denote.Struct.Field.{row_field, u8-field, u16-field, u32-field, u64-field}
use denote.Param.Send.{IsSend, sendable}
use denote.Param.SendFields.{declared_send, variants_send, as_row_send}
use Rattle.value_form.specs.contracts.acts.ActSpec as ActSpec
use Rattle.value_form.specs.contracts.scripts.Script as Script
use Rattle.value_form.specs.contracts.scripts.Stmt as Stmt
use Rattle.value_form.specs.contracts.scripts.Target as Target
use Rattle.value_form.specs.contracts.expressions.Expr as Expr
use Rattle.value_form.specs.contracts.expressions.Expr.TheKnot.{type-Expr}
use Rattle.value_form.specs.contracts.scripts.Stmt.TheKnot.{type-Stmt}
use Rattle.value_form.proofs.texts.Bytes.TheSendSync as bytes
use Rattle.value_form.proofs.lists.Items.TheSendSync as items
use Rattle.value_form.proofs.boxes.Boxed.TheSendSync as boxed
use Rattle.value_form.proofs.objects.ObjectId.TheSendSync as object
use Rattle.value_form.proofs.expressions.Prefix.TheSendSync as before
use Rattle.value_form.proofs.expressions.Infix.TheSendSync as between
use Rattle.value_form.proofs.expressions.Call.TheSendSync as call

n8 : IsSend (as_row u8-field)
n8 = search sendable depth 20

n16 : IsSend (as_row u16-field)
n16 = search sendable depth 20

pub n32 : IsSend (as_row u32-field)
n32 = search sendable depth 20

pub n64 : IsSend (as_row u64-field)
n64 = search sendable depth 20

at : (R : RattleType) → IsSend R → IsSend (as_row (row_field R))
at R s = as_row_send (row_field R) s

expr_hole : IsSend Expr.the_hole
expr_hole = fix_send Expr.the_ring (Expr.by_members (Sends Expr.the_ring) record {
  send = λ h s. let m = h Expr.the_member in let e = s Expr.the_member in
      variants_send (type-Expr m m m m m m) (
        (at _ n64, tt),
        (
          (at _ bytes.the_send, tt),
          (
            tt,
            (
              (at _ bytes.the_send, tt),
              (
                (at _ before.the_send, (at _ (boxed.the_send _ e), tt)),
                (
                  (at _ between.the_send, (at _ (boxed.the_send _ e), (at _ (boxed.the_send _ e), tt))),
                  ((at _ call.the_send, (at _ (boxed.the_send _ e), tt)), ((at _ (boxed.the_send _ e), (at _ (boxed.the_send _ e), tt)), tt)),
                ),
              ),
            ),
          ),
        ),
      );
}) Expr.the_member

pub expr_send : IsSend Expr.the_row
expr_send = let b = at _ (boxed.the_send _ expr_hole) in
    variants_send Expr.enum ((n64, tt), ((bytes.the_send, tt), (tt, ((bytes.the_send, tt), ((before.the_send, (b, tt)), ((between.the_send, (b, (b, tt))), ((call.the_send, (b, tt)), ((b, (b, tt)), tt))))))))

pub place_send : IsSend Target.the_row
place_send = variants_send Target.enum ((object.the_send, tt), ((n8, (expr_send, tt)), tt))

stmt_hole : IsSend Stmt.the_hole
stmt_hole = fix_send Stmt.the_ring (Stmt.by_members (Sends Stmt.the_ring) record {
  send = λ h s. let m = h Stmt.the_member in let i = at _ (items.the_send _ (s Stmt.the_member)) in let n = at _ n16 in let e = at _ expr_send in let p = at _ place_send in let b = at _ bytes.the_send in
      variants_send (type-Stmt m m m m) ((n, (b, (e, tt))), ((n, (b, (p, tt))), ((n, (p, (e, tt))), ((n, (e, tt)), ((n, (e, (i, (n, tt)))), ((n, (e, (i, (n, (i, (n, tt)))))), ((n, (e, (i, (n, tt)))), ((n, tt), tt))))))));
}) Stmt.the_member

pub stmt_send : IsSend Stmt.the_row
stmt_send = let i = at _ (items.the_send _ stmt_hole) in let n = n16 in let e = expr_send in let p = place_send in let b = bytes.the_send in
    variants_send Stmt.enum ((n, (b, (e, tt))), ((n, (b, (p, tt))), ((n, (p, (e, tt))), ((n, (e, tt)), ((n, (e, (i, (n, tt)))), ((n, (e, (i, (n, (i, (n, tt)))))), ((n, (e, (i, (n, tt)))), ((n, tt), tt))))))))

pub script_send : IsSend Script.the_row
script_send = declared_send Script.the_type (items.the_send _ stmt_send, tt)

pub act_send : IsSend ActSpec.the_row
act_send = declared_send ActSpec.the_type (n32, (n8, (n8, (n32, (n8, (n64, (script_send, tt)))))))
