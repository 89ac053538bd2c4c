-- The lemmas on a connection: its consistent trace of requests and responses, its acts, the bodies that it receives, and what it waits for.
mod AnswerLaws
mod HoldLaws
mod PassLaws
mod SessionLaws
mod TraceLaws
mod StepLaws
mod CallLaws
mod MendLaws
mod WithinLaws
mod WaitLaws
mod PlayerLaws
mod PlanLaws
