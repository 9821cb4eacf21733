pub mod RouteRefused
pub mod RouteSteps
pub mod RouteAnswers
pub mod RouteLinks
pub mod RouteLinksKept
