use Rattle.token_form.proofs.Names.{◌≡◌, [], ◌∷◌, ◌++◌, false, Some, None, subst, sym, ap, ◌∙◌, MatchOption, ◌&&◌, objects_fit, read_token}
use Rattle.token_form.proofs.LineLaws.{Sofar, unspaced, keeps, passes_over, no_tokens, moved, some_left, none_left, in_range_read, out_of_range_read}
use Rattle.token_form.proofs.lines.tokens_of.Goals as goal
use Rattle.token_form.proofs.lines.tokens_of.Goals.{in-Some-token+in_ok-push-in-Some-token, in-None, else-in_limits-via-then-in_limits+else-objects_fit, else-in_limits-via-else-in_limits}

pub returns-in_default-clause-token : goal.returns-in_default-clause-token
returns-in_default-clause-token c _ ts h =
    let rest = c.loop-rest.rest.now in
    let none = subst (λ o. MatchOption o (read_token rest ≡ None) (λ found. read_token rest ≡ Some (found.0, found.1.now))) c.in_default.is c.in_ok-token.ensures.found in
    no_tokens c.args.line.now rest c.loop-rest.tokens.items c.loop-rest.in_limits c.loop-rest.invariant (some_left rest c.is_empty.result c.is_empty.ensures c.loop-rest-test.true) none ts h

pub loop-rest-preserved : goal.loop-rest-preserved
loop-rest-preserved c =
    let line = c.args.line.now in
    let rest = c.loop-rest.rest.now in
    let tokens = c.loop-rest.tokens.items in
    let fits = c.loop-rest.in_limits in
    let after = c.in-Some.after.now in
    let next = c.split_run-in-loop-rest.result.1.now in
    let read = subst (λ o. MatchOption o (read_token rest ≡ None) (λ found. read_token rest ≡ Some (found.0, found.1.now))) c.in-Some.is c.in_ok-token.ensures.found in
    elim c.match-token.branch [
      | in-Some-token+in_ok-push-in-Some-token w ↦
          let x = w.in-Some-token.token in
          moved line (unspaced after) next (tokens ++ x ∷ []) c.match-token.tokens.items fits c.match-token.in_limits c.split_run-in-loop-rest.ensures.rest
          (ap (λ v. v.items) w.tokens-is ∙ w.in_ok-push-in-Some-token.ensures.items) w.in_limits-is
          (keeps line rest after tokens fits x c.loop-rest.invariant (read ∙ ap (λ z. Some (z, after)) w.in-Some-token.is))
      | in-None w ↦
          moved line (unspaced after) next tokens c.match-token.tokens.items false c.match-token.in_limits c.split_run-in-loop-rest.ensures.rest
          (ap (λ v. v.items) w.tokens-is) w.in_limits-is
          (passes_over line rest after tokens fits c.loop-rest.invariant (read ∙ ap (λ z. Some (z, after)) w.in-None.is))
    ]

pub returns-then-objects_fit-clause-ok : goal.returns-then-objects_fit-clause-ok
returns-then-objects_fit-clause-ok c =
    let tokens = c.loop-rest.tokens.items in
    let none = none_left c.loop-rest.rest.now c.is_empty.result c.is_empty.ensures c.loop-rest-test.false in
    let s = subst (λ z. Sofar c.args.line.now z tokens c.loop-rest.in_limits) none c.loop-rest.invariant in
    in_range_read c.args.greatest c.args.line.now tokens c.loop-rest.in_limits s
    (ap (λ z. z && objects_fit c.args.greatest tokens) c.if-in_limits.true ∙ ap (objects_fit c.args.greatest) (sym c.deref.ensures.value) ∙ sym c.objects_fit.ensures ∙ c.if-objects_fit.true)

pub returns-else-in_limits-clause-range : goal.returns-else-in_limits-clause-range
returns-else-in_limits-clause-range c _ =
    let tokens = c.loop-rest.tokens.items in
    let none = none_left c.loop-rest.rest.now c.is_empty.result c.is_empty.ensures c.loop-rest-test.false in
    let s = subst (λ z. Sofar c.args.line.now z tokens c.loop-rest.in_limits) none c.loop-rest.invariant in
    out_of_range_read c.args.greatest c.args.line.now tokens c.loop-rest.in_limits s
    (elim c.else-in_limits.branch [
      | else-in_limits-via-then-in_limits+else-objects_fit w ↦ ap (λ z. z && objects_fit c.args.greatest tokens) w.if-in_limits.true
          ∙ ap (objects_fit c.args.greatest) (sym w.deref.ensures.value) ∙ sym w.objects_fit.ensures ∙ w.if-objects_fit.false
      | else-in_limits-via-else-in_limits w ↦ ap (λ z. z && objects_fit c.args.greatest tokens) w.if-in_limits.false
    ])
