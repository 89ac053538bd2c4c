-- The texts that were made of a reply.
use Rattle.std.proofs.Common.{◌≡◌, ◌∙◌, IfOk, Option, Some, None, Result, Ok, Err, sym, subst}
use Rattle.hls_catchup.specs.declared.request.Request.{Request}
use Rattle.std.specs.{Global.Global, declared.sync.Arc.Arc}
use Rattle.hls_catchup.specs.Replies.{IsReplyTo, IsRightReply, ReplyData}
use Rattle.hls_catchup.specs.declared.fault.CatchFault.{CatchFault}
use Rattle.hls_core_laws.specs.State.{State}
use Rattle.hls_jobs.specs.ProgrammeTexts.{AreTexts, AreTextsOf, IsReplyFor, noted_reply}
use Rattle.hls_jobs.specs.declared.programme_texts.ProgrammeTexts.TheInside.{Inside}

-- texts of a right reply which is noted are texts of what is noted
pub texts_made : (t : Inside) (reply : ReplyData) → noted_reply t.reply.items ≡ Some reply → AreTextsOf t reply → AreTexts t (noted_reply t.reply.items)
texts_made t reply noted are = subst (AreTexts t) (sym noted) are

-- texts of what is noted are texts of the reply that is noted
pub texts_of : (t : Inside) (noted : Option ReplyData) (reply : ReplyData) → AreTexts t noted → noted ≡ Some reply → AreTextsOf t reply
texts_of t noted reply are is = subst (AreTexts t) is are

-- if a right reply to a request was noted, what was noted is a reply for this request
reply_is : (s : State) (request : Request) (reply : ReplyData) (noted : Option ReplyData) → IsRightReply s request reply → noted ≡ Some reply → IsReplyFor request noted
reply_is s request reply noted right is =
    subst (IsReplyFor request) (sym is) (subst (λ (t : State). IsRightReply t request reply) (sym right.state) right)

-- if a request is answered with a reply, the texts that were made of it are for this request
pub texts_for : {E : Type 0} (s : State) (request : Request) (answered : Result ReplyData CatchFault) (reply : ReplyData) (result : Result (Arc (Option ReplyData) Global) E) → IsReplyTo s request answered
    → answered ≡ Ok reply → IfOk result (λ texts. texts.value ≡ Some reply) → IfOk result (λ texts. IsReplyFor request texts.value)
texts_for s request answered reply (Ok texts) right is made = reply_is s request reply texts.value (subst (IsReplyTo s request) is right) made
texts_for s request answered reply (Err e) right is made = made

-- the noted reply of some texts is a right one to their request
pub reply_for : (t : Inside) (noted : Option ReplyData) (request : Request) → AreTexts t noted → t.request ≡ request → IsReplyFor request noted
reply_for t (Some reply) request are is = subst (λ (r : Request). IsReplyFor r (Some reply)) (sym are.request_is ∙ is) are.right
reply_for t None request are is = absurd are
